-- Lines before and behind a place where a line ends: the text up to there has the lines before it (`lines-take`), the
-- text from there on the others (`lines-drop`), and the place is found line by line (`end_step`); the lines of a text
-- make it up (`lines-joined`).
-- What `par` hands to the reader, and what it takes for queries, rest on these.
use mathlib.Core.Path.{◌≡◌, refl, ap, ◌∙◌}
use mathlib.Core.Logic.{⊎_elim}
use mathlib.Core.Bool.{Bool, true, false}
use mathlib.Core.List.{List, [], ◌∷◌, flatten}
use Prim.Native.Nat.{ℕ, zero, suc, ◌+◌, ◌≤◌, ◌<◌}
use native.Mathlib.Omega.{arith}
use lib.Dec.{eqb}
use lib.ListN.{length, take, drop, length-append, drop_of_length-le}
use lib.Seq.{take-nil, drop-nil}
use Rattle.basics.proofs.Comparing.{below?}
use Rattle.frames.specs.Lines.{line_feed, in_front, lines_of}
use Rattle.frames.specs.Places.{line_from}
use Rattle.frames.proofs.LineLaws.{line-none, lines_from}

-- how many characters the first k lines of x have
abbrev pub length_to : ℕ → List ℕ → ℕ
length_to k x = length (flatten (take k (lines_of x)))

-- a character in front of a text whose lines are ls
module _ (c : ℕ) (x : List ℕ) where
  joined-front :
      (t : Bool) (ls : List (List ℕ)) → flatten ls ≡ x → flatten (in_front t c ls) ≡ c ∷ x
  unfolding flatten
  joined-front true ls h = ap (λ (y : List ℕ). c ∷ y) h
  joined-front false [] h = ap (λ (y : List ℕ). c ∷ y) h
  joined-front false (l ∷ ls) h = ap (λ (y : List ℕ). c ∷ y) h

  take-front :
      (t : Bool) → eqb c line_feed ≡ t → (ls : List (List ℕ))
      → ((j : ℕ) → lines_of (take (length (flatten (take j ls))) x) ≡ take j ls)
      → (k : ℕ) → lines_of (take (length (flatten (take k (in_front t c ls)))) (c ∷ x)) ≡ take k (in_front t c ls)
  unfolding flatten
  take-front t e ls ih zero = refl
  take-front true e ls ih (suc k) = rw e (ap (in_front true c) (ih k))
  take-front false e [] ih (suc k) = rw (take-nil k) (rw e)
  take-front false e (l ∷ ls) ih (suc k) = rw e (ap (in_front false c) (ih (suc k)))

  drop-front :
      (t : Bool) (ls : List (List ℕ)) → lines_of x ≡ ls
      → ((j : ℕ) → lines_of (drop (length (flatten (take j ls))) x) ≡ drop j ls)
      → (k : ℕ) → in_front (eqb c line_feed) c (lines_of x) ≡ in_front t c ls
      → lines_of (drop (length (flatten (take k (in_front t c ls)))) (c ∷ x)) ≡ drop k (in_front t c ls)
  unfolding flatten
  drop-front t ls q ih zero e = e
  drop-front true ls q ih (suc k) e = ih k
  drop-front false [] q ih (suc k) e = rw (take-nil k, drop-nil k) q
  drop-front false (l ∷ ls) q ih (suc k) e = ih (suc k)

-- the lines of a text make it up
pub lines-joined : (x : List ℕ) → flatten (lines_of x) ≡ x
unfolding flatten
lines-joined [] = refl
lines-joined (c ∷ x) = joined-front c x (eqb c line_feed) (lines_of x) (lines-joined x)

-- up to the end of line k
pub lines-take : (x : List ℕ) (k : ℕ) → lines_of (take (length_to k x) x) ≡ take k (lines_of x)
unfolding flatten
lines-take [] k = rw (take-nil k)
lines-take (c ∷ x) k = take-front c x (eqb c line_feed) refl (lines_of x) (lines-take x) k

-- and from there on
pub lines-drop : (x : List ℕ) (k : ℕ) → lines_of (drop (length_to k x) x) ≡ drop k (lines_of x)
unfolding flatten
lines-drop [] k = rw (take-nil k, drop-nil k)
lines-drop (c ∷ x) k = drop-front c x (eqb c line_feed) (lines_of x) refl (lines-drop x) k refl

-- the end of k + 1 lines from a place on is the end of k lines from the next one on
pub end_step :
    (x : List ℕ) (at k : ℕ)
    → at + length_to (suc k) (drop at x)
    ≡ at + length (line_from x at) + length_to k (drop (at + length (line_from x at)) x)
unfolding flatten
end_step x at k = ⊎_elim inside outside (below? at (length x))
  where
    behind : ℕ
    behind = at + length (line_from x at)

    inside : at < length x → at + length_to (suc k) (drop at x) ≡ behind + length_to k (drop behind x)
    inside l =
        let lines = ap (λ (ls : List (List ℕ)). length (flatten (take (suc k) ls))) (lines_from x at l) in
        omega (arith, lines, length-append (line_from x at) (flatten (take k (lines_of (drop behind x)))))

    -- the end of the text has no line
    none : (i j : ℕ) → length x ≤ i → length_to j (drop i x) ≡ 0
    none i j l =
        ap (length_to j) (drop_of_length-le x l) ∙ ap (λ (ls : List (List ℕ)). length (flatten ls)) (take-nil j)

    outside : length x ≤ at → at + length_to (suc k) (drop at x) ≡ behind + length_to k (drop behind x)
    outside l =
        let h : length x ≤ behind = omega arith in
        omega (arith, none at (suc k) l, ap length (line-none x at l), none behind k h)
