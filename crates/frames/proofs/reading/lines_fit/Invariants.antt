-- `frames::reading::lines_fit` meets its contract.
-- The loop's invariant: the lines that are left fit from frame i on exactly where all fit.
use mathlib.Core.Path.{◌≡◌}
use lib.ListN.{drop}
use Rattle.frames.specs.Lines.{lines_of}
use Rattle.frames.specs.Reading.{lines_fit}
use Rattle.frames.proofs.reading.lines_fit.Given as goal

abbrev pub invariant-loop-i : goal.invariant-loop-i
invariant-loop-i l =
    lines_fit l.head l.i (lines_of (drop l.at l.text)) ≡ lines_fit l.head 0 (lines_of (drop l.from l.text))
