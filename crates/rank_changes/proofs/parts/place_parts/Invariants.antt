-- `rank_changes::parts::place_parts` meets its contract.
-- The loop's invariant: of the rows passed those that add something, and that of the first part, are parts.
use Rattle.std.proofs.Common.{◌≤◌}
use Rattle.rank_changes.specs.Parts.{PartsPlaced}
use Rattle.rank_changes.proofs.parts.place_parts.Given as goal

abbrev pub invariant-loop-p : goal.invariant-loop-p
invariant-loop-p l =
    (l.p ≤ l.n) × PartsPlaced l.rows l.lead l.r l.p l.count l.initial.changes l.changes
