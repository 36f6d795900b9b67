-- Conditions of the lines from a place on, by the line there and the lines behind it: `ok_from`, `fit-from`, and at the
-- end `ok_end`, `fit-end`; the lines behind the first (`lines-tail`); what is told or refused behind a verdict
-- (`answered-told`, `answered-refused`), and what decides the conditions on frames (`lines-refused`, `head-refused`,
-- `frames-decided`).
-- The functions that read an exercise rest on these.
use mathlib.Core.Path.{◌≡◌, refl, sym, ap, ap₂, ◌∙◌}
use mathlib.Core.Bool.{Bool, true, false, ◌&&◌}
use mathlib.Core.List.{List, [], ◌∷◌, tail}
use Prim.Native.Nat.{ℕ, suc, ◌+◌, ◌≤◌, ◌<◌}
use native.Mathlib.Nat.{zero-add}
use native.Mathlib.Omega.{arith}
use lib.Dec.{leb, ltb, eqb}
use lib.ListN.{length, drop, drop_of_length-le}
use Rattle.refusals.specs.Answers.{Answer, refused, told, Condition, ◌unless◌, verdict, answered}
use Rattle.refusals.proofs.Verdicts.{told-refused, verdict-told, verdict-behind, verdict-before}
use Rattle.blocks.specs.Layout.{block_length, frame_count, frame_length}
use Rattle.blocks.specs.Validity.{head_ok}
use Rattle.frames.specs.Lines.{lines_of, line_ok, line_bytes}
use Rattle.frames.specs.Places.{line_from}
use Rattle.frames.specs.Reading.{head_of, lines_ok, head_line_ok, lines_fit}
use Rattle.frames.specs.Reading.{head_conditions, frame_conditions}
use Rattle.frames.proofs.LineLaws.{lines_from}

module _ (x : List ℕ) (at : ℕ) where
  -- the lines behind the line at the place
  abbrev pub behind : List (List ℕ)
  behind = lines_of (drop (at + length (line_from x at)) x)

  module _ (l : at < length x) where
    pub ok_from : lines_ok (lines_of (drop at x)) ≡ (line_ok (line_from x at) && lines_ok behind)
    ok_from = ap lines_ok (lines_from x at l)

    pub fit-from :
        (head : List ℕ) (i : ℕ)
        → lines_fit head i (lines_of (drop at x))
        ≡ (ltb i (frame_count head)
        && (eqb (length (line_bytes (line_from x at))) (frame_length head i) && lines_fit head (suc i) behind))
    fit-from head i = ap (lines_fit head i) (lines_from x at l)

  module _ (l : length x ≤ at) where
    lines_end : lines_of (drop at x) ≡ []
    lines_end = ap lines_of (drop_of_length-le x l)

    pub ok_end : lines_ok (lines_of (drop at x)) ≡ true
    ok_end = ap lines_ok lines_end

    pub fit-end : (head : List ℕ) (i : ℕ) → lines_fit head i (lines_of (drop at x)) ≡ eqb i (frame_count head)
    fit-end head i = ap (lines_fit head i) lines_end

-- the lines behind the first
pub lines-tail : (x : List ℕ) → tail (lines_of x) ≡ lines_of (drop (length (line_from x 0)) x)
unfolding line_from
lines-tail [] = refl
lines-tail (c ∷ x) =
    ap tail (lines_from (c ∷ x) 0 (omega arith))
    ∙ ap (λ (k : ℕ). lines_of (drop k (c ∷ x))) (zero-add (length (line_from (c ∷ x) 0)))

-- what is told or refused behind a verdict
pub answered-told :
    {A : Type 0} (v : Answer (Unit {0})) (a b : A) → told a ≡ answered v b → (v ≡ told tt) × (a ≡ b)
answered-told (refused n) a b e = absurd (told-refused refl e)
answered-told (told u) a b e = (refl, cc)

pub answered-refused : {A : Type 0} (v : Answer (Unit {0})) (k : ℕ) (b : A) → refused k ≡ answered v b → v ≡ refused k
answered-refused (refused n) k b e = cc
answered-refused (told u) k b e = absurd (told-refused refl (sym e))

-- what an accepted head is
pub head-accepted :
    (ls : List (List ℕ)) → verdict (head_conditions ls) ≡ told tt
    → (head_line_ok ls ≡ true) × (head_ok (head_of ls) ≡ true)
head-accepted ls h =
    let p = verdict-told 2 (head_line_ok ls) (3 unless head_ok (head_of ls) ∷ []) h in
    (p.0, (verdict-told 3 (head_ok (head_of ls)) [] p.1).0)

-- the conditions on frames, decided one after the other: a wrong character, the head, then the other lines and the room
module _ (ls : List (List ℕ)) (room : ℕ) where
  pub lines-refused : lines_ok ls ≡ false → verdict (frame_conditions ls room) ≡ refused 1
  unfolding frame_conditions
  lines-refused wrong = rw wrong

  -- the conditions behind the head
  abbrev others : Bool → Bool → List Condition
  others fit long = 2 unless fit ∷ 11 unless long ∷ []

  abbrev these : List Condition
  these = others (lines_fit (head_of ls) 0 (tail ls)) (leb (block_length (head_of ls)) room)

  module _ (right : lines_ok ls ≡ true) where
    pub head-refused :
        (k : ℕ) → verdict (head_conditions ls) ≡ refused k → verdict (frame_conditions ls room) ≡ refused k
    unfolding frame_conditions
    head-refused k h = rw right (verdict-before (head_conditions ls) these k h)

    pub frames-decided :
        (fit long : Bool) → verdict (head_conditions ls) ≡ told tt → lines_fit (head_of ls) 0 (tail ls) ≡ fit
        → leb (block_length (head_of ls)) room ≡ long
        → verdict (frame_conditions ls room) ≡ verdict (2 unless fit ∷ 11 unless long ∷ [])
    unfolding frame_conditions
    frames-decided fit long h p q =
        rw right (verdict-behind (head_conditions ls) these h ∙ ap₂ (λ (f l : Bool). verdict (others f l)) p q)
