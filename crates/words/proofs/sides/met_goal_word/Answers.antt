-- `words::sides::met_goal_word` meets its contract.
use Rattle.std.proofs.Common.{sym, ◌∙◌, arith, below_more}
use Rattle.basics.proofs.Bounded.{find_at, find-passed}
use Rattle.words.specs.Sides.{goal_place, matches_word, met_goal_word}
use Rattle.words.proofs.sides.met_goal_word.Goals as goal

pub loop-g-init : goal.loop-g-init
loop-g-init c = λ k l. absurd (omega arith)

pub returns-then-matches_word : goal.returns-then-matches_word
unfolding met_goal_word
returns-then-matches_word c =
    let a = c.args in
    sym (find_at (λ g. matches_word a.code.now (goal_place g) a.word) a.goals c.loop-g.g (omega arith)
    (sym c.matches_word.ensures ∙ c.if-matches_word.true) c.loop-g.invariant)

pub loop-g-preserved : goal.loop-g-preserved
loop-g-preserved c = below_more _ _ c.loop-g.invariant (sym c.matches_word.ensures ∙ c.if-matches_word.false)

pub returns : goal.returns
unfolding met_goal_word
returns c =
    let a = c.args in
    sym (find-passed (λ g. matches_word a.code.now (goal_place g) a.word) a.goals c.loop-g.g (omega arith)
    c.loop-g.invariant)
