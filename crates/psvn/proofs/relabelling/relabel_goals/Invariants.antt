-- `psvn::relabelling::relabel_goals` meets its contract.
-- The loop's invariant: the goals passed are written, and `at` is the place behind them.
use mathlib.Core.Path.{◌≡◌}
use Prim.Native.Nat.{◌+◌}
use lib.ListN.{length}
use lib.Seq.{sets}
use Rattle.basics.specs.Lists.{joined}
use Rattle.blocks.specs.Layout.{goals}
use Rattle.psvn.specs.Relabelling.{relabel_goal}
use Rattle.psvn.proofs.relabelling.relabel_goals.Given as goal

abbrev pub invariant-loop-g : goal.invariant-loop-g
invariant-loop-g l =
    (l.goals ≡ goals l.block) × (length l.out ≡ length l.initial.out)
    × (l.at ≡ l.to + length (joined l.g (relabel_goal l.block)))
    × (l.out ≡ sets l.initial.out l.to (joined l.g (relabel_goal l.block)))
