-- `rank_changes::rows::add_to_row` meets its contract.
-- The loop's invariant: the entries passed have grown, and nothing else is written.
use Rattle.std.proofs.Common.{◌≡◌, ℕ, ◌<◌}
use Rattle.rank_changes.specs.Rows.{RowAdded}
use Rattle.rank_changes.proofs.rows.add_to_row.Given as goal

abbrev pub invariant-loop-x : goal.invariant-loop-x
invariant-loop-x g l =
    (d : ℕ → ℕ) → ((x y : ℕ) → x < 16 → g.F.Fn.post l.added (x, tt) y → y ≡ d x)
    → RowAdded d l.p l.x l.initial.rows l.rows
