-- `filling::spreading::Backwards::pull` meets its contract.
-- The loop's invariant: the table is good.
use Rattle.distances.specs.Filling.{Good}
use Rattle.tables.specs.Abstraction.{graph_of}
use Rattle.filling.proofs.spreading.Backwards.pull.Given as goal

abbrev pub invariant-loop : goal.invariant-loop
invariant-loop l = Good (graph_of l.self.ranked.compiled.block.now) l.table
