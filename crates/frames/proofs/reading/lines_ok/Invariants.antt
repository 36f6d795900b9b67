-- `frames::reading::lines_ok` meets its contract.
-- The loop's invariant: the lines that the reader has left are as good as all of them.
use mathlib.Core.Path.{◌≡◌}
use lib.ListN.{drop}
use Rattle.frames.specs.Lines.{lines_of}
use Rattle.frames.specs.Reading.{lines_ok}
use Rattle.frames.proofs.reading.lines_ok.Given as goal

abbrev pub invariant-loop-line : goal.invariant-loop-line
invariant-loop-line l =
    (l.line-iterator.text.now ≡ l.text)
    × (lines_ok (lines_of (drop l.line-iterator.at l.text)) ≡ lines_ok (lines_of l.text))
