-- `tables::estimates::relabelled_rank` meets its contract.
-- The loop's invariant: k is the number of the first i labels.
use mathlib.Core.Path.{◌≡◌}
use Prim.Native.Nat.{◌≤◌, ◌-◌}
use Rattle.blocks.specs.Layout.{positions}
use Rattle.tables.proofs.RelabelledRanks.{part_rank}
use Rattle.tables.proofs.estimates.relabelled_rank.Given as goal

abbrev pub invariant-loop-i : goal.invariant-loop-i
invariant-loop-i l = (l.n ≡ positions l.block) × (l.i ≤ l.n) × (l.k ≡ part_rank l.block l.state l.i)

abbrev pub decreases-loop-i : goal.decreases-loop-i
decreases-loop-i l = l.n - l.i
