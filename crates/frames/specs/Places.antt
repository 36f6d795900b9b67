-- Places in a text: the line at a place (`line_from`), and what the decoder tells of it (`line_at`).
-- The reader's functions are stated with these.
use Rattle.std.specs.Prelude.{ℕ, ◌+◌, List, [], ◌∷◌, length, drop}
use Rattle.frames.specs.Lines.{lines_of, line_ok, line_bytes}
use Rattle.frames.specs.declared.lines.Line.{Line}

-- the first of some lines; none is empty, so that the empty list stands for no line
abbrev pub first_line : List (List ℕ) → List ℕ
first_line [] = []
first_line (l ∷ ls) = l

-- the line of the text x at the place `at`, its line feed with it
unfoldable pub line_from : List ℕ → ℕ → List ℕ
line_from x at = first_line (lines_of (drop at x))

-- whether it is pairs of digits with a line feed, how many bytes they make, and the place behind it
abbrev pub line_at : List ℕ → ℕ → Line
line_at x at =
    record {
      ok = line_ok (line_from x at);
      bytes = length (line_bytes (line_from x at));
      next = at + length (line_from x at);
    }
