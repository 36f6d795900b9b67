-- `tables::edges::Compiled::goals_pass` meets its contract.
-- The loop's invariant: the goals passed pass.
use Rattle.std.proofs.Common.{ℕ, ◌<◌}
use Rattle.tables.specs.BySides.{GoalPasses}
use Rattle.tables.proofs.edges.Compiled.goals_pass.Given as goal

abbrev pub invariant-loop-g : goal.invariant-loop-g
invariant-loop-g l = (i : ℕ) → i < l.g → GoalPasses l.self.block.now l.table i
