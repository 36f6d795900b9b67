-- What an accepted text says: once the frames are accepted its bytes are as long as its head demands
-- (`frames-accepted`, `block-sized`), so that 4 cannot come, and an accepted text holds a valid block (`read-valid`).
-- Reading an exercise, and `par`, rest on these.
use mathlib.Core.Path.{◌≡◌, refl, sym, ap, ◌∙◌, subst}
use mathlib.Core.Bool.{true, ◌&&◌}
use mathlib.Core.List.{List, [], ◌∷◌, ◌++◌, flat_map, tail}
use Prim.Native.Nat.{ℕ, suc, ◌+◌, ◌≤◌}
use native.Mathlib.Omega.{arith}
use lib.Dec.{leb, ltb, eqb}
use lib.ListN.{length, length-append}
use borrow.Author.Tests.{eqb-true, leb-true}
use Rattle.basics.proofs.Truth.{and-true}
use Rattle.refusals.specs.Answers.{told, verdict, ◌unless◌}
use Rattle.refusals.proofs.Verdicts.{verdict-told, verdict-parts}
use Rattle.blocks.specs.Layout.{head_length, block_length, frame_count, frame_length}
use Rattle.blocks.specs.Validity.{head_ok, content_conditions, Headed, Sized, Valid}
use Rattle.blocks.proofs.Accepted.{headed, content-valid}
use Rattle.blocks.proofs.FrameLaws.{frame_at, frames-all, same_length, same_head}
use Rattle.frames.specs.Lines.{line_bytes}
use Rattle.frames.specs.Reading.{head_of, block_of, lines_ok, head_line_ok, lines_fit}
use Rattle.frames.specs.Reading.{frame_conditions, read_conditions}

-- the block is the head and what stands in the other lines
block-split : (ls : List (List ℕ)) → block_of ls ≡ head_of ls ++ block_of (tail ls)
unfolding flat_map
block-split [] = refl
block-split (l ∷ ls) = refl

-- lines that fit from frame i on reach the block's end
fit_length :
    (head : List ℕ) (i : ℕ) (ls : List (List ℕ)) → lines_fit head i ls ≡ true
    → frame_at head i + length (block_of ls) ≡ block_length head
unfolding flat_map frame_at
fit_length head i [] h =
    omega (arith, ap (frame_at head) (eqb-true i (frame_count head) h), frames-all head)
fit_length head i (l ∷ ls) h =
    let fits = eqb (length (line_bytes l)) (frame_length head i) in
    let p = and-true (ltb i (frame_count head)) (fits && lines_fit head (suc i) ls) h in
    let q = and-true fits (lines_fit head (suc i) ls) p.1 in
    let mine = eqb-true (length (line_bytes l)) (frame_length head i) q.0 in
    omega (arith, mine, fit_length head (suc i) ls q.1, length-append (line_bytes l) (block_of ls))

module _ (ls : List (List ℕ)) (room : ℕ) where
  pub record FramesAccepted : Type 0 where
    pub right : lines_ok ls ≡ true
    pub five : length (head_of ls) ≡ head_length
    pub head : Headed (head_of ls)
    pub fit : lines_fit (head_of ls) 0 (tail ls) ≡ true
    pub room-left : block_length (head_of ls) ≤ room

  pub frames-accepted : verdict (frame_conditions ls room) ≡ told tt → FramesAccepted
  unfolding frame_conditions
  frames-accepted h =
      let c₁₁ = 11 unless leb (block_length (head_of ls)) room in
      let c₂ = 2 unless lines_fit (head_of ls) 0 (tail ls) in
      let c₃ = 3 unless head_ok (head_of ls) in
      let p₁ = verdict-told 1 (lines_ok ls) (2 unless head_line_ok ls ∷ c₃ ∷ c₂ ∷ c₁₁ ∷ []) h in
      let p₂ = verdict-told 2 (head_line_ok ls) (c₃ ∷ c₂ ∷ c₁₁ ∷ []) p₁.1 in
      let p₃ = verdict-told 3 (head_ok (head_of ls)) (c₂ ∷ c₁₁ ∷ []) p₂.1 in
      let q₂ = verdict-told 2 (lines_fit (head_of ls) 0 (tail ls)) (c₁₁ ∷ []) p₃.1 in
      let p₁₁ = verdict-told 11 (leb (block_length (head_of ls)) room) [] q₂.1 in
      record {
        right = p₁.0;
        five = eqb-true (length (head_of ls)) head_length p₂.0;
        head = headed (head_of ls) p₃.0;
        fit = q₂.0;
        room-left = leb-true (block_length (head_of ls)) room p₁₁.0;
      }

  module _ (a : FramesAccepted) where
    -- as many bytes as the head demands
    pub block-length : length (block_of ls) ≡ block_length (head_of ls)
    unfolding frame_at
    block-length =
        let behind = fit_length (head_of ls) 0 (tail ls) a.fit in
        omega (arith, ap length (block-split ls), length-append (head_of ls) (block_of (tail ls)), a.five, behind)

    -- and the block has that head
    pub block-sized : Sized (block_of ls)
    block-sized =
        let same = ap block_length (block-split ls) ∙ same_length (head_of ls) (block_of (tail ls)) a.five in
        record {
          headed = subst Headed (sym (block-split ls)) (same_head (head_of ls) (block_of (tail ls)) a.five a.head);
          len = block-length ∙ sym same;
        }

-- an accepted text holds a valid block
pub read-valid : (ls : List (List ℕ)) (room : ℕ) → verdict (read_conditions ls room) ≡ told tt → Valid (block_of ls)
unfolding read_conditions
read-valid ls room h =
    let p = verdict-parts (frame_conditions ls room) (content_conditions (block_of ls)) h in
    content-valid (block_of ls) (block-sized ls room (frames-accepted ls room p.0)) p.1
