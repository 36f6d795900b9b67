-- `psvn::relabelling::relabel_rules` meets its contract.
-- The loop's invariant: the rules passed are written, and `at` is the place behind them.
use mathlib.Core.Path.{◌≡◌}
use Prim.Native.Nat.{◌+◌}
use lib.ListN.{length}
use lib.Seq.{sets}
use Rattle.basics.specs.Lists.{joined}
use Rattle.blocks.specs.Layout.{rules}
use Rattle.psvn.specs.Relabelling.{relabel_rule}
use Rattle.psvn.proofs.relabelling.relabel_rules.Given as goal

abbrev pub invariant-loop-r : goal.invariant-loop-r
invariant-loop-r l =
    (l.rules ≡ rules l.block) × (length l.out ≡ length l.initial.out)
    × (l.at ≡ l.to + length (joined l.r (relabel_rule l.block)))
    × (l.out ≡ sets l.initial.out l.to (joined l.r (relabel_rule l.block)))
