-- `frames::reading::read_head` meets its contract.
-- The line at the front is the first line.
use mathlib.Core.Path.{◌≡◌, ap, ◌∙◌}
use mathlib.Core.List.{List}
use Prim.Native.Nat.{ℕ}
use native.Mathlib.Nat.{zero-add}
use lib.ListN.{length}
use Rattle.frames.specs.Lines.{lines_of, line_ok}
use Rattle.frames.specs.Places.{first_line, line_from, line_at}
use Rattle.frames.specs.Reading.{head_of}
use Rattle.frames.specs.declared.lines.Line.{Line}
use Rattle.frames.proofs.reading.read_head.Goals as goal

-- what is told of the first line
module _ (x : List ℕ) (line : Line) (is : line ≡ line_at x 0) where
  right : line.ok ≡ line_ok (first_line (lines_of x))
  unfolding line_from
  right = ap (λ (l : Line). l.ok) is

  onward : line.next ≡ length (first_line (lines_of x))
  unfolding line_from
  onward = ap (λ (l : Line). l.next) is ∙ zero-add (length (first_line (lines_of x)))

  five : line.bytes ≡ length (head_of (lines_of x))
  unfolding line_from
  five = ap (λ (l : Line). l.bytes) is

pub check_head-requires : goal.check_head-requires
check_head-requires c = five _ _ c.read_line-line.ensures

pub returns : goal.returns
returns c =
    let e = c.read_line-line.ensures in
    record { right = right _ _ e; onward = onward _ _ e; judged = c.check_head.ensures }
