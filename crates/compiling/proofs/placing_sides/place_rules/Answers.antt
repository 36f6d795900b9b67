-- `compiling::placing_sides::place_rules` meets its contract.
use native.Mathlib.Omega.{arith}
use borrow.Author.Count.{below_more}
use borrow.Author.Rules.{rules as std_rules}
use Rattle.compiling.proofs.placing_sides.place_rules.Goals as goal

pub loop-r-init : goal.loop-r-init
loop-r-init c = (search std_rules, search std_rules, λ k l. absurd (omega arith))

pub place_rule-requires : goal.place_rule-requires
place_rule-requires c =
    (c.requires, omega arith)

pub loop-r-preserved : goal.loop-r-preserved
loop-r-preserved c =
    let inv = c.loop-r.invariant in
    let p = c.place_rule.ensures in
    (inv.0, search std_rules, below_more _ _ (λ k l. p.others k l (inv.2 k l)) p.rule)

pub returns : goal.returns
returns c =
    let inv = c.loop-r.invariant in
    record { rule = λ r l. inv.2 r (omega arith) }
