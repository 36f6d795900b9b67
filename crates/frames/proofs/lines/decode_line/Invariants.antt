-- `frames::lines::decode_line` meets its contract.
-- The loop's invariant: writing the bytes that are left where the loop stands leaves what writing all of them does.
use mathlib.Core.Path.{◌≡◌}
use Prim.Native.Nat.{◌*◌}
use lib.ListN.{drop}
use lib.Seq.{sets}
use Rattle.frames.specs.Lines.{line_bytes}
use Rattle.frames.proofs.lines.decode_line.Given as goal

abbrev pub invariant-loop-i : goal.invariant-loop-i
invariant-loop-i l = sets l.out l.i (line_bytes (drop (2 * l.i) l.line)) ≡ sets l.initial.out 0 (line_bytes l.line)
