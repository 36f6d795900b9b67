-- `tables::by_sides::in_range` meets its contract.
-- The loop's invariant: where it still says so, the ranks passed are below the bound.
use Rattle.std.proofs.Common.{◌≡◌, true}
use Rattle.edge_ranks.specs.Lists.{rank_at}
use Rattle.tables.specs.BySides.{InTable}
use Rattle.tables.proofs.by_sides.in_range.Given as goal

abbrev pub invariant-loop-rank : goal.invariant-loop-rank
invariant-loop-rank l = l.below ≡ true → InTable l.bound (rank_at l.ranks) l.rank-index
