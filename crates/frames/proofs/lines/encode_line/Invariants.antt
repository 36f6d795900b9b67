-- `frames::lines::encode_line` meets its contract.
-- The loop's invariant: writing the bytes that are left where the loop stands leaves what writing all of them does.
use mathlib.Core.Path.{◌≡◌}
use Prim.Native.Nat.{◌*◌}
use lib.ListN.{drop}
use lib.Seq.{sets}
use Rattle.frames.specs.Lines.{line_of}
use Rattle.frames.proofs.lines.encode_line.Given as goal

abbrev pub invariant-loop-i : goal.invariant-loop-i
invariant-loop-i l = sets l.out (2 * l.i) (line_of (drop l.i l.bytes)) ≡ sets l.initial.out 0 (line_of l.bytes)
