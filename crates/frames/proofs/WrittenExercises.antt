-- Every valid block can be read from its text: `read-written`. Its frames make it up, their lines pass every condition
-- of the reader, and so it stands in the buffer again.
-- It shows that the reader refuses no valid block's text, given the room.
use mathlib.Core.Path.{◌≡◌, refl, sym, ap, ap₂, ◌∙◌, subst}
use mathlib.Core.Bool.{true}
use mathlib.Core.List.{List, [], ◌∷◌, ◌++◌, map, flat_map, flatten}
use Prim.Native.Nat.{ℕ, zero, suc, ◌+◌, ◌≤◌}
use native.Mathlib.Nat.{add-zero, zero-add}
use native.Mathlib.Omega.{arith}
use lib.Dec.{ltb, eqb}
use lib.ListN.{length, take, drop, take-append-drop, length-drop}
use lib.Seq.{length-take-le}
use borrow.Author.Tests.{eq-eqb, lt-ltb, le-leb}
use Rattle.basics.specs.Lists.{at_front, Bytes}
use Rattle.basics.proofs.Truth.{and_intro}
use Rattle.basics.proofs.ByteLists.{bytes_take, bytes_drop}
use Rattle.refusals.specs.Answers.{told, verdict, outcome}
use Rattle.refusals.proofs.Verdicts.{verdict-behind}
use Rattle.blocks.specs.Layout.{head_length, block_length, frame_count, frame_length}
use Rattle.blocks.specs.Validity.{content_conditions, Headed, Valid}
use Rattle.blocks.proofs.Accepted.{head_ok_lem, content-accepted}
use Rattle.blocks.proofs.FrameLaws.{frame_at, frames-all, frames-rise, same_length, head-alone}
use Rattle.frames.specs.Lines.{line_ok, line_bytes, line_of}
use Rattle.frames.specs.Reading.{head_of, block_of, lines_ok, lines_fit}
use Rattle.frames.specs.Reading.{read_conditions, frame_conditions, read_exercise}
use Rattle.frames.specs.Writing.{frames_from, frames_of, text_of}
use Rattle.frames.proofs.WrittenLines.{AllBytes, written-ok, written-bytes, written-lines}

frames-bytes : (head : List ℕ) (i k : ℕ) (rest : List ℕ) → Bytes rest → AllBytes (frames_from head i k rest)
frames-bytes head i zero rest small = tt
frames-bytes head i (suc k) rest small =
    let f = frame_length head i in
    (bytes_take f rest small, frames-bytes head (suc i) k (drop f rest) (bytes_drop f rest small))

-- written frames: each line is right, and their bytes are the frames
lines-right : (fs : List (List ℕ)) → AllBytes fs → lines_ok (map line_of fs) ≡ true
lines-right [] small = refl
lines-right (f ∷ fs) small =
    and_intro (line_ok (line_of f)) (lines_ok (map line_of fs)) (written-ok f small.0) (lines-right fs small.1)

bytes_back : (fs : List (List ℕ)) → AllBytes fs → block_of (map line_of fs) ≡ flatten fs
unfolding flat_map flatten
bytes_back [] small = refl
bytes_back (f ∷ fs) small = ap₂ (λ (x y : List ℕ). x ++ y) (written-bytes f small.0) (bytes_back fs small.1)

module _ (head : List ℕ) where
  -- how much is left for frames i to i + k
  abbrev Left : ℕ → ℕ → List ℕ → Type 0
  Left i k rest = frame_at head i + length rest ≡ frame_at head (i + k)

  one_on : (i k : ℕ) → frame_at head (i + suc k) ≡ frame_at head (suc i + k)
  one_on i k = ap (frame_at head) (omega arith)

  -- there is enough for frame i, and what it leaves is enough for the others
  enough : (i k : ℕ) (rest : List ℕ) → Left i (suc k) rest → frame_length head i ≤ length rest
  unfolding frame_at
  enough i k rest l =
      omega (arith, l, one_on i k, frames-rise head (suc i) k)

  left-on : (i k : ℕ) (rest : List ℕ) → Left i (suc k) rest → Left (suc i) k (drop (frame_length head i) rest)
  unfolding frame_at
  left-on i k rest l =
      omega (arith, l, one_on i k, enough i k rest l, length-drop (frame_length head i) rest)

  frames-joined : (i k : ℕ) (rest : List ℕ) → Left i k rest → flatten (frames_from head i k rest) ≡ rest
  unfolding flatten
  frames-joined i zero [] l = refl
  frames-joined i zero (b ∷ rest) l = absurd (omega (arith, l, ap (frame_at head) (add-zero i)))
  frames-joined i (suc k) rest l =
      let f = frame_length head i in
      ap (λ (x : List ℕ). take f rest ++ x) (frames-joined (suc i) k (drop f rest) (left-on i k rest l))
      ∙ take-append-drop f rest

  frames-fit :
      (i k : ℕ) (rest : List ℕ) → i + k ≡ frame_count head → Bytes rest → Left i k rest
      → lines_fit head i (map line_of (frames_from head i k rest)) ≡ true
  frames-fit i zero rest e small l = eq-eqb i (frame_count head) (omega arith)
  frames-fit i (suc k) rest e small l =
      let f = frame_length head i in
      let n = length (line_bytes (line_of (take f rest))) in
      let back = written-bytes (take f rest) (bytes_take f rest small) in
      let long : n ≡ f = ap length back ∙ length-take-le f rest (enough i k rest l) in
      and_intro (ltb i (frame_count head)) _ (lt-ltb i (frame_count head) (omega arith))
      (and_intro (eqb n f) _ (eq-eqb n f long)
      (frames-fit (suc i) k (drop f rest) (omega arith) (bytes_drop f rest small) (left-on i k rest l)))

module _ (b : List ℕ) (v : Valid b) (small : Bytes b) where
  abbrev head : List ℕ
  head = take head_length b

  abbrev rest : List ℕ
  rest = drop head_length b

  abbrev lines : List (List ℕ)
  lines = map line_of (frames_of b)

  -- the head has five bytes, is in its limits, and asks for what stands behind it
  five : length head ≡ head_length
  five = length-take-le head_length b v.sized.headed.long

  head-right : Headed head
  head-right = head-alone head rest five (subst Headed (sym (take-append-drop head_length b)) v.sized.headed)

  long : block_length head ≡ length b
  long =
      sym (same_length head rest five) ∙ ap block_length (take-append-drop head_length b) ∙ sym v.sized.len

  left : Left head 0 (frame_count head) rest
  unfolding frame_at
  left =
      let all = ap (frame_at head) (zero-add (frame_count head)) in
      omega (arith, all, frames-all head, long, length-drop head_length b, v.sized.headed.long)

  all-bytes : AllBytes (frames_of b)
  all-bytes =
      (bytes_take head_length b small, frames-bytes head 0 (frame_count head) rest (bytes_drop head_length b small))

  head-back : head_of lines ≡ head
  head-back = written-bytes head (bytes_take head_length b small)

  -- the frames make up the block
  block_back : block_of lines ≡ b
  unfolding flatten
  block_back =
      bytes_back (frames_of b) all-bytes
      ∙ ap (λ (x : List ℕ). head ++ x) (frames-joined head 0 (frame_count head) rest left)
      ∙ take-append-drop head_length b

  frames-pass : (room : ℕ) → length b ≤ room → verdict (frame_conditions lines room) ≡ told tt
  unfolding frame_conditions
  frames-pass room l =
      let right = lines-right (frames_of b) all-bytes in
      let ten = eq-eqb (length head) head_length five in
      let count = frame_count head in
      let fit = frames-fit head 0 count rest (zero-add count) (bytes_drop head_length b small) left in
      let short = le-leb (block_length head) room (omega (arith, long)) in
      rw (right, head-back, ten, head_ok_lem head head-right, fit, short)

  content-passes : verdict (content_conditions (block_of lines)) ≡ told tt
  content-passes = content-accepted (block_of lines) (subst Valid (sym block_back) v)

  passes : (room : ℕ) → length b ≤ room → verdict (read_conditions lines room) ≡ told tt
  unfolding read_conditions
  passes room l =
      verdict-behind (frame_conditions lines room) (content_conditions (block_of lines)) (frames-pass room l)
      ∙ content-passes

  pub read-written :
      (out : List ℕ) → length b ≤ length out
      → read_exercise (text_of b) out ≡ outcome (told (length b)) (at_front b out)
  unfolding read_exercise text_of
  read-written out l =
      rw (written-lines (frames_of b) all-bytes, passes (length out) l, block_back)
