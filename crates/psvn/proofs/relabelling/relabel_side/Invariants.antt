-- `psvn::relabelling::relabel_side` meets its contract.
-- The loop's invariant: the terms passed are written, relabelled.
use mathlib.Core.Path.{◌≡◌}
use mathlib.Core.List.{List}
use Prim.Native.Nat.{ℕ}
use lib.Seq.{sets}
use Rattle.basics.specs.Lists.{tabulate}
use Rattle.blocks.specs.Layout.{positions, map_at, side_at}
use Rattle.psvn.specs.Relabelling.{relabel_term}
use Rattle.psvn.proofs.relabelling.relabel_side.Given as goal

-- the byte at one position
abbrev pub made : List ℕ → ℕ → ℕ → ℕ
made b from i = relabel_term (map_at b i) (side_at b from i)

abbrev pub invariant-loop-i : goal.invariant-loop-i
invariant-loop-i l =
    (l.n ≡ positions l.block) × (l.out ≡ sets l.initial.out l.to (tabulate l.i (made l.block l.from)))
