-- Laws of replaced elements: the length stays (`length-placed`), other elements stay (`placed-other`), each one that is
-- replaced is told (`placed_at`), and those of a list at the front are replaced in that list (`placed-front`).
-- The exercise under a further map, and what it has in common with the exercise, rest on these.
use mathlib.Core.Path.{◌≡◌, refl, sym, ap, ◌∙◌}
use mathlib.Core.Logic.{⊎_elim}
use mathlib.Core.List.{List}
use Prim.Native.Nat.{ℕ, zero, suc, ◌+◌, ◌<◌}
use native.Mathlib.Nat.{not-suc-le-zero}
use native.Mathlib.Numerals.{add-one}
use native.Mathlib.Omega.{arith}
use lib.ListN.{length, get_or, set, length-set}
use lib.Seq.{get_or-set_same, get_or-set_other}
use Rattle.basics.specs.Lists.{at_front}
use Rattle.basics.specs.Placing.{placed}
use Rattle.basics.proofs.Comparing.{same?}
use Rattle.basics.proofs.Lists.{set_front}

module _ (l : List ℕ) (at f : ℕ → ℕ) where
  pub length-placed : (n : ℕ) → length (placed l at f n) ≡ length l
  length-placed zero = refl
  length-placed (suc n) = length-set (placed l at f n) (at n) (f n) ∙ length-placed n

  pub placed-other : (n j : ℕ) → ((k : ℕ) → k < n → j ≡ at k → ⊥) → get_or (placed l at f n) j 0 ≡ get_or l j 0
  placed-other zero j apart = refl
  placed-other (suc n) j apart =
      get_or-set_other (placed l at f n) (at n) j (f n) 0 (apart n (omega arith))
      ∙ placed-other n j (λ k m. apart k (omega arith))

  -- places that rise
  pub placed_at :
      ((i j : ℕ) → i < j → at i < at j) → (n k : ℕ) → k < n → at k < length l
      → get_or (placed l at f n) (at k) 0 ≡ f k
  placed_at rise zero k m inside = absurd (not-suc-le-zero m)
  placed_at rise (suc n) k m inside =
      ⊎_elim
      (λ e.
      ap (λ (j : ℕ). get_or (set (placed l at f n) (at n) (f n)) (at j) 0) e
      ∙ get_or-set_same (placed l at f n) (at n) (f n) 0 (omega (arith, length-placed n, ap at e)) ∙ ap f (sym e))
      (λ e.
      let low : k < n = omega arith in
      get_or-set_other (placed l at f n) (at n) (at k) (f n) 0 (λ q. omega (arith, rise k n low))
      ∙ placed_at rise n k low inside)
      (same? k n)

  -- one element more
  pub placed-more : (n x : ℕ) → x ≡ f n → set (placed l at f n) (at n) x ≡ placed l at f (n + 1)
  placed-more n x e = ap (set (placed l at f n) (at n)) e ∙ ap (placed l at f) (sym (add-one n))

-- elements of the list at the front
pub placed-front :
    (new old : List ℕ) (at f : ℕ → ℕ) (n : ℕ) → ((k : ℕ) → k < n → at k < length new)
    → placed (at_front new old) at f n ≡ at_front (placed new at f n) old
placed-front new old at f zero h = refl
placed-front new old at f (suc n) h =
    ap (λ (l : List ℕ). set l (at n) (f n)) (placed-front new old at f n (λ k m. h k (omega arith)))
    ∙ set_front (placed new at f n) old (at n) (f n) (omega (arith, length-placed new at f n, h n (omega arith)))
