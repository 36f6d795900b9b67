-- `psvn::rules::met_goal` meets its contract.
use Rattle.std.proofs.Common.{sym, ◌∙◌, arith, rules, below_more}
use Rattle.basics.proofs.Bounded.{find_at, find-passed}
use Rattle.blocks.specs.Layout.{goals}
use Rattle.psvn.specs.Rules.{goal_met, met_goal}
use Rattle.psvn.proofs.rules.met_goal.Goals as goal

pub loop-g-init : goal.loop-g-init
loop-g-init c = (search rules, λ k l. absurd (omega arith))

pub returns-then-goal_met : goal.returns-then-goal_met
unfolding met_goal
returns-then-goal_met c =
    let b = c.new-block.result in
    let l = c.loop-g in
    rw (sym c.new-block.ensures) (sym (find_at (λ g. goal_met b g c.args.state.now) (goals b) l.g (omega arith)
    (sym c.goal_met.ensures ∙ c.if-goal_met.true) l.invariant.1))

pub loop-g-preserved : goal.loop-g-preserved
loop-g-preserved c =
    let inv = c.loop-g.invariant in
    (inv.0, below_more _ _ inv.1 (sym c.goal_met.ensures ∙ c.if-goal_met.false))

pub returns : goal.returns
unfolding met_goal
returns c =
    let b = c.new-block.result in
    rw (sym c.new-block.ensures)
    (sym (find-passed (λ g. goal_met b g c.args.state.now) (goals b) c.loop-g.g (omega arith) c.loop-g.invariant.1))
