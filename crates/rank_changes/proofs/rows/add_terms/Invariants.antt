-- `rank_changes::rows::add_terms` meets its contract.
-- The loop's invariant: the rows and the constant are balanced for the terms passed.
use Rattle.blocks.specs.Sides.{left_terms, right_terms}
use Rattle.rank_changes.specs.Rows.{Balanced}
use Rattle.rank_changes.proofs.rows.add_terms.Given as goal

abbrev pub invariant-loop-i : goal.invariant-loop-i
invariant-loop-i l =
    Balanced l.sides.n (left_terms l.sides) (right_terms l.sides) l.singles l.rows l.constant l.i
