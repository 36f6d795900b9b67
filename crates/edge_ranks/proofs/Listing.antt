-- Lists of ranks, position by position from the last one on: the list of the word 0 alone (`listed-first`), a position
-- that changes nothing (`listed-idle`) and one whose labels are added (`listed_more`); the whole word at the end
-- (`listed-all`). The code that finds edges rests on these.
use mathlib.Core.Path.{◌≡◌, sym, ap, ◌∙◌}
use mathlib.Core.Logic.{⊎_elim}
use Prim.Native.Nat.{ℕ, suc, ◌+◌, ◌*◌, ◌%◌, ◌^◌, ◌≤◌, ◌<◌}
use native.Mathlib.Nat.{div-eq_of_lt, div-one, mul-one, zero-mul, mod-add-mod, add-mod-mod}
use native.Mathlib.Omega.{arith}
use Rattle.basics.proofs.Comparing.{same?}
use Rattle.words.specs.Packing.{digit}
use Rattle.edge_ranks.specs.Lists.{LabelsAdded, from, Additive, Listed}

-- no label is left from n on, and all from 0 on
from-none : (n w : ℕ) → w < 16 ^ n → from n w ≡ 0
from-none n w l = ap (λ (q : ℕ). q * 16 ^ n) (div-eq_of_lt l) ∙ zero-mul (16 ^ n)

pub from_all : (w : ℕ) → from 0 w ≡ w
from_all w = ap (λ (q : ℕ). q * 1) (div-one w) ∙ mul-one w

-- a rank with a label more: x before it, alone e, and b where there is no label
sum_kept : (y x e b : ℕ) → y + b ≡ x + e → e ≡ b → x % 16384 ≡ y % 16384
sum_kept y x e b h i = let k : x ≡ y = omega arith in ap (λ (z : ℕ). z % 16384) k

sum_more :
    (y x e b : ℕ) → y + b ≡ x + e → (old base new : ℕ) → old ≡ x % 16384 → base ≡ b % 16384 → new < 16384
    → (new + base) % 16384 ≡ (old + e) % 16384 → new ≡ y % 16384
sum_more y x e b h old base new o c l s =
    cancel new y b
    (sym (add-mod-mod new b 16384) ∙ ap (λ (z : ℕ). (new + z) % 16384) (sym c) ∙ s ∙ ap (λ (z : ℕ). (z + e) % 16384) o
    ∙ mod-add-mod x 16384 e ∙ ap (λ (z : ℕ). z % 16384) (sym h))
    l
  where
    cancel : (u v b : ℕ) → (u + b) % 16384 ≡ (v + b) % 16384 → u < 16384 → u ≡ v % 16384
    cancel u v b h l = omega arith

module _ (f g : ℕ → ℕ) (n k : ℕ) where
  pub listed-first : (s t : ℕ → ℕ) → s 0 ≡ f 0 % 16384 → t 0 ≡ g 0 % 16384 → Listed f g n k n s t 1
  listed-first s t a b w l =
      let e = sym (from-none n w l.0) in
      (0, omega arith, a ∙ ap (λ (z : ℕ). f z % 16384) e, b ∙ ap (λ (z : ℕ). g z % 16384) e)

  module _ (add_f : Additive n k f) (add_g : Additive n k g) (p : ℕ) (low : p < n) where
    -- the label 0
    at_zero : (h : ℕ → ℕ) (d : ℕ) → d ≡ 0 → h (d * 16 ^ p) ≡ h 0
    at_zero h d e = ap (λ (z : ℕ). h (z * 16 ^ p)) e ∙ ap h (zero-mul (16 ^ p))

    pub listed-idle :
        (s t : ℕ → ℕ) (count : ℕ) → ((l : ℕ) → 1 ≤ l → l < k → (f (l * 16 ^ p) ≡ f 0) × (g (l * 16 ^ p) ≡ g 0))
        → Listed f g n k (suc p) s t count → Listed f g n k p s t count
    listed-idle s t count idle h w l =
        let (j, i, a, b) = h w l in
        let d = digit w p in
        let same : (f (d * 16 ^ p) ≡ f 0) × (g (d * 16 ^ p) ≡ g 0) =
        ⊎_elim (λ e. (at_zero f d e, at_zero g d e)) (λ e. idle d (omega arith) (l.1 p low)) (same? d 0) in
        (j, i, a ∙ sum_kept _ _ _ _ (add_f w p l low) same.0, b ∙ sum_kept _ _ _ _ (add_g w p l low) same.1)

    pub listed_more :
        (s t s' t' : ℕ → ℕ) (count new : ℕ) → s 0 ≡ f 0 % 16384 → t 0 ≡ g 0 % 16384
        → LabelsAdded f k p count new s s' → LabelsAdded g k p count new t t'
        → Listed f g n k (suc p) s t count → Listed f g n k p s' t' new
    listed_more s t s' t' count new es et x y h w l =
        let (j, i, a, b) = h w l in
        let d = digit w p in
        ⊎_elim
        (λ e. (
          j,
          (x.kept j i).0,
          (x.kept j i).1 ∙ a ∙ sum_kept _ _ _ _ (add_f w p l low) (at_zero f d e),
          (y.kept j i).1 ∙ b ∙ sum_kept _ _ _ _ (add_g w p l low) (at_zero g d e),
        ))
        (λ e.
        let u = x.more d j (omega arith) (l.1 p low) i in
        let v = y.more d j (omega arith) (l.1 p low) i in (
          d * count + j,
          u.0,
          sum_more _ _ _ _ (add_f w p l low) _ _ _ a es u.1 u.2,
          sum_more _ _ _ _ (add_g w p l low) _ _ _ b et v.1 v.2,
        ))
        (same? d 0)
