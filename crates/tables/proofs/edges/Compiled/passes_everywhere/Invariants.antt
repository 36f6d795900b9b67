-- `tables::edges::Compiled::passes_everywhere` meets its contract.
-- The loop's invariant: the table passes at the ranks below u.
use Rattle.std.proofs.Common.{◌≡◌, true, ℕ, ◌<◌}
use Rattle.distances.specs.LowerBounds.{passes_at}
use Rattle.tables.specs.Abstraction.{graph_of}
use Rattle.tables.proofs.edges.Compiled.passes_everywhere.Given as goal

abbrev pub invariant-loop-u : goal.invariant-loop-u
invariant-loop-u l = (w : ℕ) → w < l.u → passes_at (graph_of l.self.block.now) l.table w ≡ true
