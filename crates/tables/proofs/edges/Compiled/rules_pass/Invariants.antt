-- `tables::edges::Compiled::rules_pass` meets its contract.
-- The loop's invariant: the rules passed pass.
use Rattle.std.proofs.Common.{ℕ, ◌<◌}
use Rattle.tables.specs.Abstraction.{graph_of}
use Rattle.tables.specs.BySides.{RulePasses}
use Rattle.tables.proofs.edges.Compiled.rules_pass.Given as goal

abbrev pub invariant-loop-r : goal.invariant-loop-r
invariant-loop-r l = (i : ℕ) → i < l.r → RulePasses (graph_of l.self.block.now) l.table i
