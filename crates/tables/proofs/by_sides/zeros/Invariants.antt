-- `tables::by_sides::zeros` meets its contract.
-- The loop's invariant: the entries at the ranks passed are 0.
use Rattle.edge_ranks.specs.Lists.{rank_at}
use Rattle.tables.specs.BySides.{Zeros}
use Rattle.tables.proofs.by_sides.zeros.Given as goal

abbrev pub invariant-loop-rank : goal.invariant-loop-rank
invariant-loop-rank l = Zeros l.table (rank_at l.ranks) l.rank-index
