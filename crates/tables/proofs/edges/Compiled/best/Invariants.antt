-- `tables::edges::Compiled::best` meets its contract.
-- The loop's invariant: `least` is the least cost by the rules below r.
use Rattle.distances.proofs.OneRule.{BestBelow}
use Rattle.tables.specs.Abstraction.{graph_of}
use Rattle.tables.proofs.edges.Compiled.best.Given as goal

abbrev pub invariant-loop-r : goal.invariant-loop-r
invariant-loop-r l = BestBelow (graph_of l.self.block.now) l.table l.u l.r l.least
