-- `rank_changes::folding::fold_terms` meets its contract.
-- The loop's invariant: some rows are folded, and the sum is the same.
use Rattle.blocks.specs.Sides.{left_terms}
use Rattle.rank_changes.specs.Folds.{Folded}
use Rattle.rank_changes.proofs.folding.fold_terms.Given as goal

abbrev pub invariant-loop-i : goal.invariant-loop-i
invariant-loop-i l =
    Folded l.sides.n (left_terms l.sides) l.initial.rows l.constant l.rows l.folded
