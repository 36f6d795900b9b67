-- `rank_changes::changing::place_rule_changes` meets its contract.
use Rattle.std.proofs.Common.{refl, ◌∙◌, arith, below_more}
use Rattle.rank_changes.proofs.RankAfter.{change-kept}
use borrow.Author.Rules.{rules as std_rules}
use Rattle.rank_changes.proofs.changing.place_rule_changes.Goals as goal

pub loop-r-init : goal.loop-r-init
loop-r-init c = (search std_rules, search std_rules, λ k l. absurd (omega arith), λ k l. refl)

pub place_change-requires : goal.place_change-requires
place_change-requires c =
    (c.requires, omega arith)

pub loop-r-preserved : goal.loop-r-preserved
loop-r-preserved c =
    let inv = c.loop-r.invariant in
    let p = c.place_change.ensures in (
      inv.0,
      search std_rules,
      below_more _ _ (λ k l. change-kept k (λ j a m. p.changes.before j (omega arith)) (inv.2 k l)) p.change,
      λ k l. p.changes.before k (omega arith) ∙ inv.3 k l,
    )

pub returns : goal.returns
returns c =
    let inv = c.loop-r.invariant in
    record { change = λ r l. inv.2 r (omega arith); front = inv.3 }
