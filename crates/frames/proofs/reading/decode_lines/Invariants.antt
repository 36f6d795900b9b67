-- `frames::reading::decode_lines` meets its contract.
-- The loop's invariant: what is written at the front, and the bytes of the lines that are left, are the bytes of all
-- lines.
use mathlib.Core.Path.{◌≡◌}
use mathlib.Core.List.{List, ◌++◌}
use Prim.Native.Nat.{ℕ}
use lib.ListN.{length}
use Rattle.basics.specs.Lists.{at_front}
use Rattle.frames.specs.Lines.{lines_of}
use Rattle.frames.specs.Reading.{block_of}
use Rattle.frames.proofs.reading.decode_lines.Given as goal

abbrev pub invariant-loop-line : goal.invariant-loop-line
invariant-loop-line l =
    (front : List ℕ)
    × (l.to ≡ length front)
    × (l.out ≡ at_front front l.initial.out)
    × (front ++ block_of (lines_of l.line-iterator.rest.now) ≡ block_of (lines_of l.text))
