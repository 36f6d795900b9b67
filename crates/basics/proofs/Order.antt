-- The order of lists of digits, the first digit deciding (`Before`), is the order of the numbers they write
-- (`before-value`, `value_before`), and lists of one length with digits below their bases are equal where their numbers
-- are (`value-injective`). The rank order of states rests on these.
use mathlib.Core.Path.{◌≡◌, refl, sym, ap, ◌∙◌, subst}
use mathlib.Core.Logic.{◌⊎◌, inl, inr, ⊎_elim}
use mathlib.Core.Bool.{Bool, true, false, not}
use mathlib.Core.List.{List}
use Prim.Native.Nat.{ℕ, zero, suc, ◌+◌, ◌-◌, ◌*◌, ◌<◌}
use native.Mathlib.Nat.{add-zero, add-suc}
use native.Mathlib.Omega.{arith}
use lib.Arith.{digits_lt}
use lib.Dec.{eqb}
use lib.ListN.{length, get_or}
use borrow.Author.Tests.{eqb-true, eqb-false, not-true, not-false}
use Rattle.basics.specs.Bounded.{some, first}
use Rattle.basics.specs.Digits.{value_to, digits}
use Rattle.basics.proofs.Comparing.{trichotomy}
use Rattle.basics.proofs.Bounded.{some-false, first_holds, first-least}
use Rattle.basics.proofs.Digits.{value-ext, digits_value}

-- u comes before v: up to some place they agree, and there u has the lower element
pub record Before (n : ℕ) (u v : List ℕ) : Type 0 where
  pub place : ℕ
  pub within : place < n
  pub agree : (k : ℕ) → k < place → get_or u k 0 ≡ get_or v k 0
  pub lower : get_or u place 0 < get_or v place 0

-- two lists agree at each place, or one comes before the other
module _ (n : ℕ) (u v : List ℕ) where
  abbrev differs : ℕ → Bool
  differs k = not (eqb (get_or u k 0) (get_or v k 0))

  compare : ((k : ℕ) → k < n → get_or u k 0 ≡ get_or v k 0) ⊎ (Before n u v ⊎ Before n v u)
  compare = go (some n differs) refl
    where
      part :
          (d : ℕ) → d < n → (get_or u d 0 ≡ get_or v d 0 → ⊥) → ((k : ℕ) → k < d → get_or u k 0 ≡ get_or v k 0)
          → (get_or u d 0 < get_or v d 0) ⊎ ((get_or u d 0 ≡ get_or v d 0) ⊎ (get_or v d 0 < get_or u d 0))
          → Before n u v ⊎ Before n v u
      part d l h a (inl x) = inl (record { place = d; within = l; agree = a; lower = x })
      part d l h a (inr (inl x)) = absurd (h x)
      part d l h a (inr (inr x)) = inr (record { place = d; within = l; agree = λ k m. sym (a k m); lower = x })

      equal : (k : ℕ) → differs k ≡ false → get_or u k 0 ≡ get_or v k 0
      equal k h = eqb-true _ _ (not-false _ h)

      go : (t : Bool) → some n differs ≡ t
          → ((k : ℕ) → k < n → get_or u k 0 ≡ get_or v k 0) ⊎ (Before n u v ⊎ Before n v u)
      go false e = inl (λ k l. equal k (some-false differs n e k l))
      go true e =
          let h = first_holds differs n e in
          let d = first n differs in
          inr (part d h.0 (eqb-false _ _ (not-true _ h.1)) (λ k l. equal k (first-least differs n k l))
          (trichotomy (get_or u d 0) (get_or v d 0)))

module _ (base : ℕ → ℕ) where
  -- the lower front stays lower, whatever digits follow
  lower-more :
      (u v : List ℕ) (i : ℕ) → value_to base u i < value_to base v i → get_or u i 0 < base i
      → value_to base u (suc i) < value_to base v (suc i)
  lower-more u v i h x = omega (arith, digits_lt h x)

  lower-behind :
      (u v : List ℕ) (d m : ℕ) → value_to base u d < value_to base v d → ((k : ℕ) → k < d + m → get_or u k 0 < base k)
      → value_to base u (d + m) < value_to base v (d + m)
  lower-behind u v d zero h x = rw (add-zero d) h
  lower-behind u v d (suc m) h x =
      rw (add-suc d m)
      (lower-more u v (d + m) (lower-behind u v d m h (λ k l. x k (omega arith))) (x (d + m) (omega arith)))

  pub before-value :
      (n : ℕ) (u v : List ℕ) → ((k : ℕ) → k < n → get_or u k 0 < base k) → Before n u v
      → value_to base u n < value_to base v n
  before-value n u v x b =
      let a = ap (λ (m : ℕ). m * base b.place) (value-ext base u v b.place b.agree) in
      let h : value_to base u (suc b.place) < value_to base v (suc b.place) = omega (arith, b.lower) in
      let w = b.within in
      let q : suc b.place + (n - suc b.place) ≡ n = omega arith in
      subst (λ (i : ℕ). value_to base u i < value_to base v i) q
      (lower-behind u v (suc b.place) (n - suc b.place) h (λ k l. x k (omega arith)))

  pub value_before :
      (n : ℕ) (u v : List ℕ) → ((k : ℕ) → k < n → get_or v k 0 < base k) → value_to base u n < value_to base v n
      → Before n u v
  value_before n u v x h =
      ⊎_elim (λ s. absurd (let e = value-ext base u v n s in omega arith))
      (λ o. ⊎_elim (λ b. b) (λ b. absurd (let k = before-value n v u x b in omega arith)) o)
      (compare n u v)

  pub value-injective :
      (n : ℕ) (u v : List ℕ) → length u ≡ n → length v ≡ n → ((k : ℕ) → k < n → get_or u k 0 < base k)
      → ((k : ℕ) → k < n → get_or v k 0 < base k) → value_to base u n ≡ value_to base v n → u ≡ v
  value-injective n u v lu lv x y e =
      sym (digits_value base u n lu x) ∙ ap (digits base n) e ∙ digits_value base v n lv y
