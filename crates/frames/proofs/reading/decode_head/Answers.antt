-- `frames::reading::decode_head` meets its contract.
-- The part up to the line's end is the first line, and its five bytes fill the array.
use mathlib.Core.Path.{◌≡◌, sym, ap, ◌∙◌}
use mathlib.Core.Bool.{true}
use mathlib.Core.List.{List}
use Prim.Native.Nat.{ℕ, ◌+◌, ◌≤◌}
use native.Mathlib.Omega.{arith}
use lib.ListN.{length, take, replicate}
use lib.Seq.{length-take-le}
use borrow.Author.Tests.{eqb-true}
use Rattle.basics.specs.Lists.{at_front}
use Rattle.basics.proofs.Lists.{front-whole}
use Rattle.blocks.specs.Layout.{head_length}
use Rattle.frames.specs.Lines.{lines_of, line_bytes}
use Rattle.frames.specs.Places.{line_from}
use Rattle.frames.specs.Reading.{head_of, head_line_ok}
use Rattle.frames.proofs.LineLaws.{line-part, line-inside}
use Rattle.frames.proofs.reading.decode_head.Goals as goal

module _ (x : List ℕ) (end : ℕ) (is : end ≡ 0 + length (line_from x 0)) where
  inside : end ≤ length x
  inside = omega (arith, line-inside x 0 (omega arith))

  -- the part that is decoded is the first line
  part : line_bytes (take end x) ≡ head_of (lines_of x)
  unfolding line_from
  part =
      let e : end ≡ length (line_from x 0) = omega arith in
      ap line_bytes (ap (λ (k : ℕ). take k x) e ∙ line-part x 0)

-- it has five bytes
five : (x : List ℕ) → head_line_ok (lines_of x) ≡ true → length (head_of (lines_of x)) ≡ head_length
five x h = eqb-true (length (head_of (lines_of x))) head_length h

pub slice_bounds-decode_line-end : goal.slice_bounds-decode_line-end
slice_bounds-decode_line-end c =
    let x = c.args.text.now in
    sym (length-take-le c.line_end-end.result x (inside x _ c.line_end-end.ensures))

pub decode_line-requires : goal.decode_line-requires
decode_line-requires c =
    let x = c.args.text.now in
    omega (arith, ap length (part x _ c.line_end-end.ensures), five x c.requires)

pub returns : goal.returns
returns c =
    let x = c.args.text.now in
    let head = head_of (lines_of x) in
    c.decode_line.ensures.1
    ∙ ap (λ (l : List ℕ). at_front l (replicate 5 0)) (part x _ c.line_end-end.ensures)
    ∙ front-whole head (replicate 5 0) (omega (arith, five x c.requires))
