-- `psvn::rules::met_goal` meets its contract.
-- The loop's invariant: no goal passed is met.
use Rattle.std.proofs.Common.{◌≡◌, ℕ, ◌<◌, false}
use Rattle.blocks.specs.Layout.{goals}
use Rattle.psvn.specs.Rules.{goal_met}
use Rattle.psvn.proofs.rules.met_goal.Given as goal

abbrev pub invariant-loop-g : goal.invariant-loop-g
invariant-loop-g l = (l.goals ≡ goals l.block) × ((k : ℕ) → k < l.g → goal_met l.block k l.state ≡ false)
