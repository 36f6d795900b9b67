-- `tables::by_sides::entries_pass` meets its contract.
-- The loop's invariant: the edges passed pass.
use Rattle.edge_ranks.specs.Lists.{rank_at}
use Rattle.tables.specs.BySides.{EdgesPass}
use Rattle.tables.proofs.by_sides.entries_pass.Given as goal

abbrev pub invariant-loop-j : goal.invariant-loop-j
invariant-loop-j l = EdgesPass l.table (rank_at l.sources) (rank_at l.targets) l.j l.cost
