-- `frames::reading::read_text` meets its contract.
-- Refused with the buffer as it was, first by the frames and then by the content, or the block at its front.
use mathlib.Core.Path.{◌≡◌, sym, ap, ap₂, ◌∙◌, subst}
use mathlib.Core.List.{List, ◌++◌}
use Prim.Native.Nat.{ℕ, ◌≤◌}
use native.Mathlib.Omega.{arith}
use lib.ListN.{length, take, drop, replicate}
use lib.Seq.{length-take-le}
use Rattle.basics.specs.Lists.{at_front}
use Rattle.basics.proofs.Lists.{front-taken}
use Rattle.refusals.specs.Answers.{Answer, refused, told, verdict, Outcome, outcome, guarded}
use Rattle.refusals.proofs.Verdicts.{verdict-behind, verdict-before}
use Rattle.blocks.specs.Validity.{content_conditions, Sized}
use Rattle.blocks.proofs.Offsets.{block-short}
use Rattle.frames.specs.Lines.{lines_of}
use Rattle.frames.specs.Reading.{block_of, frame_conditions, read_conditions, read_exercise}
use Rattle.frames.proofs.AcceptedText.{FramesAccepted, frames-accepted, block-length, block-sized}
use Rattle.std.proofs.lemmas.Result.{err_from_is_err_and}
use Rattle.frames.proofs.reading.read_text.Goals as goal

-- the block of a text, and the verdicts for a buffer
abbrev block : List ℕ → List ℕ
block x = block_of (lines_of x)

abbrev framing : List ℕ → List ℕ → Answer (Unit {0})
framing x out = verdict (frame_conditions (lines_of x) (length out))

abbrev reading : List ℕ → List ℕ → Answer (Unit {0})
reading x out = verdict (read_conditions (lines_of x) (length out))

-- the outcome by the verdict
abbrev settled : List ℕ → List ℕ → Answer (Unit {0}) → Outcome ℕ
settled x out verdict = guarded verdict out (outcome (told (length (block x))) (at_front (block x) out))

module _ (x out : List ℕ) where
  by-verdict : (v : Answer (Unit {0})) → reading x out ≡ v → settled x out v ≡ read_exercise x out
  unfolding read_exercise
  by-verdict v h = sym (ap (settled x out) h)

  -- the frames refuse
  frames-refuse : (k : ℕ) → refused k ≡ framing x out → outcome (refused k) out ≡ read_exercise x out
  unfolding read_conditions
  frames-refuse k h =
      by-verdict (refused k)
      (verdict-before (frame_conditions (lines_of x) (length out)) (content_conditions (block x)) k (sym h))

  -- the frames are accepted
  module _ (framed : told tt ≡ framing x out) where
    accepted : FramesAccepted (lines_of x) (length out)
    accepted = frames-accepted (lines_of x) (length out) (sym framed)

    -- the block fits the array and the buffer
    short : length (block x) ≤ 2261
    short = omega (arith, block-length (lines_of x) (length out) accepted, block-short _ accepted.head)

    fits : length (block x) ≤ length out
    fits = omega (arith, block-length (lines_of x) (length out) accepted, accepted.room-left)

    -- the part that is checked is the block
    module _ (n : ℕ) (len : n ≡ length (block x)) (a : List ℕ) (is : a ≡ at_front (block x) (replicate 2304 0)) where
      part : take n a ≡ block x
      part = ap (take n) is ∙ front-taken (block x) (replicate 2304 0) n len

      sized : Sized (take n a)
      sized = subst Sized (sym part) (block-sized (lines_of x) (length out) accepted)

      -- once the frames are accepted, the content decides
      content : (v : Answer (Unit {0})) → v ≡ verdict (content_conditions (take n a)) → reading x out ≡ v
      unfolding read_conditions
      content v h =
          verdict-behind (frame_conditions (lines_of x) (length out)) (content_conditions (block x)) (sym framed)
          ∙ ap (λ (b : List ℕ). verdict (content_conditions b)) (sym part)
          ∙ sym h

      read :
          (to : List ℕ) → told tt ≡ verdict (content_conditions (take n a)) → to ≡ at_front (take n a) out
          → outcome (told n) to ≡ read_exercise x out
      read to h e =
          ap₂ (λ (k : ℕ) (b : List ℕ). outcome (told k) b) len (e ∙ ap (λ (b : List ℕ). at_front b out) part)
          ∙ by-verdict (told tt) (content (told tt) h)

pub returns-in_err-check_lines : goal.returns-in_err-check_lines
returns-in_err-check_lines c =
    let p = err_from_is_err_and c.from_residual.result c.from_residual.ensures.1 in
    rw (p.1, p.2) (frames-refuse c.args.text.now c.args.out.now _ c.in_err-check_lines.ensures)

pub decode_lines-length-requires : goal.decode_lines-length-requires
decode_lines-length-requires c = omega (arith, short c.args.text.now c.args.out.now c.in_ok-check_lines.ensures)

pub check_content-requires : goal.check_content-requires
check_content-requires c =
    let e = c.decode_lines-length.ensures in
    sized c.args.text.now c.args.out.now c.in_ok-check_lines.ensures _ e.0 _ e.1

pub returns-in_err-check_content : goal.returns-in_err-check_content
returns-in_err-check_content c =
    let x = c.args.text.now in
    let out = c.args.out.now in
    let e = c.decode_lines-length.ensures in
    let r = c.from_residual-in_err-check_content in
    let p = err_from_is_err_and r.result r.ensures.1 in
    rw
    (p.1, p.2)
    (by-verdict x out _ (content x out c.in_ok-check_lines.ensures _ e.0 _ e.1 _ c.in_err-check_content.ensures))

pub slice_bounds-copy_from_slice-end : goal.slice_bounds-copy_from_slice-end
slice_bounds-copy_from_slice-end c =
    omega (arith, c.decode_lines-length.ensures.0, fits c.args.text.now c.args.out.now c.in_ok-check_lines.ensures)

pub slice_bounds-copy_from_slice-end-2 : goal.slice_bounds-copy_from_slice-end-2
slice_bounds-copy_from_slice-end-2 c =
    let n = c.decode_lines-length.ensures.0 in
    let l = fits c.args.text.now c.args.out.now c.in_ok-check_lines.ensures in
    sym (length-take-le c.decode_lines-length.result c.args.out.now (omega (arith, n, l)))

pub copy_from_slice-requires : goal.copy_from_slice-requires
copy_from_slice-requires c =
    let x = c.args.text.now in
    let out = c.args.out.now in
    let e = c.decode_lines-length.ensures in
    let l = fits x out c.in_ok-check_lines.ensures in
    length-take-le c.decode_lines-length.result out (omega (arith, e.0, l))
    ∙ e.0
    ∙ sym (ap length (part x out c.in_ok-check_lines.ensures _ e.0 _ e.1))

pub returns : goal.returns
returns c =
    let x = c.args.text.now in
    let out = c.args.out.now in
    let n = c.decode_lines-length.result in
    let e = c.decode_lines-length.ensures in
    let framed = c.in_ok-check_lines.ensures in
    let long = e.0 ∙ sym (ap length (part x out framed n e.0 _ e.1)) in
    let copied =
    ap₂ (λ (l : List ℕ) (k : ℕ). l ++ drop k out) c.copy_from_slice.ensures.after long in
    read x out framed n e.0 _ e.1 _ c.in_ok-check_content.ensures copied
