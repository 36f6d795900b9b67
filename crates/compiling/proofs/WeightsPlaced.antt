-- Weights written one after another: those of one position more (`rows_more`), all of them low (`low-more`) over an
-- array of zeros (`zeros`), and those of pairs, which are then the weights of the block (`pairs-weighted`). The loops
-- over positions and labels rest on these.
use mathlib.Core.Path.{◌≡◌, refl, sym, ap, ap₂, ◌∙◌, subst}
use mathlib.Core.Logic.{⊎_elim}
use mathlib.Core.List.{List}
use Prim.Native.Nat.{ℕ, zero, suc, ◌+◌, ◌-◌, ◌*◌, ◌/◌, ◌%◌, ◌≤◌, ◌<◌}
use native.Mathlib.Nat.{add-zero, eq-or-lt_of_le}
use native.Mathlib.Omega.{arith}
use lib.Arith.{digits_mod}
use lib.ListN.{length, get_or, set, replicate}
use lib.Seq.{get_or-set_same, get_or-set_other}
use Rattle.basics.proofs.Comparing.{same?}
use Rattle.blocks.specs.Layout.{positions, label_count, abstract_count, map_at}
use Rattle.blocks.specs.Validity.{Headed}
use Rattle.blocks.proofs.StateLaws.{label-count-low}
use Rattle.words.specs.Ranking.{place_value, weight_of}
use Rattle.words.specs.Compiled.{Weighted}
use Rattle.compiling.specs.PlacingWeights.{RowPlaced, SinglesPlaced, PairsPlaced}

-- the weights of one position more
pub rows_more :
    {b singles singles' : List ℕ} (i : ℕ) {p : ℕ} → p ≡ place_value (abstract_count b) (suc i) (positions b - suc i)
    → RowPlaced b i p singles singles'
    → ((j x : ℕ) → suc i ≤ j → j < positions b → x < label_count b j → get_or singles (16 * j + x) 0 ≡ weight_of b j x)
    → (j x : ℕ) → i ≤ j → j < positions b → x < label_count b j → get_or singles' (16 * j + x) 0 ≡ weight_of b j x
rows_more {b} {singles} {singles'} i e row rest j x h lj lx =
    ⊎_elim (λ k. at j k lx) (λ k. row.singles.behind (16 * j + x) (omega arith) ∙ rest j x k lj lx) (eq-or-lt_of_le h)
  where
    at : (j : ℕ) → i ≡ j → x < label_count b j → get_or singles' (16 * j + x) 0 ≡ weight_of b j x
    at j k =
        subst (λ (j : ℕ). x < label_count b j → get_or singles' (16 * j + x) 0 ≡ weight_of b j x) k
        (λ l. row.weight x l ∙ ap (λ (y : ℕ). map_at b i x * y) e)

-- an array of zeros
pub zeros : (n k : ℕ) → get_or {A = ℕ} (replicate n 0) k 0 ≡ 0
zeros zero k = refl
zeros (suc n) zero = refl
zeros (suc n) (suc k) = zeros n k

-- one weight more is written, and it is low: all are
pub low-more :
    (l : List ℕ) (at v : ℕ) → at < length l → v ≤ 16384 → ((k : ℕ) → get_or l k 0 ≤ 16384) → (k : ℕ)
    → get_or (set l at v) k 0 ≤ 16384
low-more l at v h low rest k =
    ⊎_elim (λ e. omega (arith, get_or-set_same l at v 0 h, ap (λ (j : ℕ). get_or (set l at v) j 0) e))
    (λ n. omega (arith, get_or-set_other l at k v 0 (λ e. n (sym e)), rest k)) (same? at k)

-- the weights of pairs are those of single labels together
pub pairs-weighted :
    {b singles weights : List ℕ} → Headed b → SinglesPlaced b singles → PairsPlaced (positions b) singles weights
    → Weighted b weights
pairs-weighted {b} {singles} {weights} h single pairs =
    record {
      pair = λ j x y l lx ly.
          let n = h.sizes.n_high in
          joined j x y (omega arith) (omega (arith, label-count-low b h (2 * j)))
          (omega (arith, label-count-low b h (suc (2 * j))))
          ∙ ap₂ ◌+◌ (single.weight (2 * j) x (omega arith) lx) (single.weight (suc (2 * j)) y l ly);
      final = λ j x y e lx ly.
          let n = h.sizes.n_high in
          joined j x y (omega arith) (omega (arith, label-count-low b h (2 * j))) ly
          ∙ ap₂ ◌+◌ (single.weight (2 * j) x (omega arith) lx) (single.behind (16 * suc (2 * j) + y) (omega arith))
          ∙ add-zero (weight_of b (2 * j) x);
    }
  where
    joined :
        (j x y : ℕ) → 2 * j < positions b → x < 16 → y < 16
        → get_or weights (256 * j + (y * 16 + x)) 0
        ≡ get_or singles (16 * (2 * j) + x) 0 + get_or singles (16 * suc (2 * j) + y) 0
    joined j x y lj lx ly =
        let k = 256 * j + (y * 16 + x) in
        let byte : k / 256 ≡ j = omega arith in
        let without : k / 16 ≡ j * 16 + y = omega arith in
        let high = ap (λ (d : ℕ). d % 16) without ∙ digits_mod j ly in
        let first : 32 * (k / 256) + k % 16 ≡ 16 * (2 * j) + x = omega arith in
        let second : 32 * (k / 256) + 16 + k / 16 % 16 ≡ 16 * suc (2 * j) + y = omega arith in
        pairs.pair k (omega arith) ∙ ap₂ (λ (i i' : ℕ). get_or singles i 0 + get_or singles i' 0) first second
