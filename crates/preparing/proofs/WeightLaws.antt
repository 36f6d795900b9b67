-- The weights of one more map put in front of those that are packed, one after another (`AddedTo`: `added_none`,
-- `added_more`, `added-all`), as those of labels (`map-placed`), and map after map from the last one on
-- (`packed_none`, `packed-next`, `further-packed`, `own-packed`). The functions that pack weights rest on these.
use mathlib.Core.Path.{◌≡◌, refl, sym, ap, ap₂, subst, ◌∙◌}
use mathlib.Core.Logic.{⊎_elim}
use mathlib.Core.Bool.{Bool, true, false, cond}
use mathlib.Core.List.{List}
use Prim.Native.Nat.{ℕ, suc, ◌+◌, ◌-◌, ◌*◌, ◌/◌, ◌%◌, ◌≤◌, ◌<◌, min}
use native.Mathlib.Nat.{mod-eq_of_lt, mul-le-mul_right, suc-mul}
use native.Mathlib.Omega.{arith}
use lib.Dec.{ltb}
use lib.ListN.{length, get_or, set, length-set}
use lib.Seq.{get_or-set_same, get_or-set_other}
use Rattle.basics.specs.Sums.{packed_from}
use Rattle.basics.proofs.Comparing.{same?}
use Rattle.basics.proofs.Sums.{packed-three}
use Rattle.blocks.specs.Layout.{positions, label_count, abstract_count, abstract_states, map_at}
use Rattle.blocks.specs.Validity.{Valid}
use Rattle.blocks.proofs.Accepted.{map_below}
use Rattle.blocks.proofs.StateLaws.{label-count-low, some-abstract}
use Rattle.psvn.proofs.RankLaws.{states-span}
use Rattle.maps.specs.Maps.{further_maps, all_maps, exercise_at, entries_before, Mapped}
use Rattle.maps.proofs.MapLaws.{exercise-alike, table-within}
use Rattle.words.specs.Ranking.{place_value, weight_of}
use Rattle.words.proofs.WordRanks.{place-more, place-below}
use Rattle.compiling.specs.PlacingWeights.{SinglesPlaced}
use Rattle.preparing.specs.Weights.{at_first, place_weight, three_ranks, MapAdded, MapPlaced, WeightsPacked}

-- ---- one map

-- what stands at place k once the map is in front
abbrev pub with_map : List ℕ → ℕ → List ℕ → ℕ → ℕ
with_map own begin singles k = get_or own k 0 + at_first begin (k / 16) + 65536 * (get_or singles k 0 % three_ranks)

-- the first n are put in front, the others are as they were
pub record AddedTo (own : List ℕ) (begin n : ℕ) (singles₀ singles₁ : List ℕ) : Type 0 where
  pub len : length singles₁ ≡ 256
  pub passed : (k : ℕ) → k < n → get_or singles₁ k 0 ≡ with_map own begin singles₀ k
  pub rest : (k : ℕ) → n ≤ k → get_or singles₁ k 0 ≡ get_or singles₀ k 0

pub added_none : {own singles : List ℕ} {begin : ℕ} → length singles ≡ 256 → AddedTo own begin 0 singles singles
added_none long = record { len = long; passed = λ k l. absurd (omega arith); rest = λ k l. refl }

pub added_more :
    {own singles₀ singles₁ : List ℕ} {begin n x : ℕ} → n < 256 → AddedTo own begin n singles₀ singles₁
    → x ≡ with_map own begin singles₀ n → AddedTo own begin (n + 1) singles₀ (set singles₁ n x)
added_more {own} {singles₀} {singles₁} {begin} {n} {x} l a e =
    record {
      len = length-set singles₁ n x ∙ a.len;
      passed = λ k m.
          ⊎_elim
          (λ q.
          ap (λ (j : ℕ). get_or (set singles₁ n x) j 0) q
          ∙ get_or-set_same singles₁ n x 0 (omega (arith, a.len)) ∙ e ∙ ap (with_map own begin singles₀) (sym q))
          (λ q. get_or-set_other singles₁ n k x 0 q ∙ a.passed k (omega arith))
          (same? k n);
      rest = λ k m. get_or-set_other singles₁ n k x 0 (λ q. omega arith) ∙ a.rest k (omega arith);
    }

pub added-all :
    {own singles₀ singles₁ : List ℕ} {begin n : ℕ} → n ≡ 256 → AddedTo own begin n singles₀ singles₁
    → MapAdded own begin singles₀ singles₁
added-all e a = record { weight = λ k l. a.passed k (omega arith) }

-- the place of a label
place-position : (p x : ℕ) → x < 16 → (16 * p + x) / 16 ≡ p
place-position p x l = omega arith

pub map-placed :
    {c own singles₀ singles₁ : List ℕ} {begin : ℕ} → Valid c → SinglesPlaced c own
    → MapAdded own begin singles₀ singles₁ → MapPlaced c begin singles₀ singles₁
map-placed {c} {own} {singles₀} {singles₁} {begin} v s a =
    record {
      weight = λ p x l m.
          let few = label-count-low c v.sized.headed p in
          let behind = 65536 * (get_or singles₀ (16 * p + x) 0 % three_ranks) in
          a.weight (16 * p + x) (omega (arith, v.sized.headed.sizes.n_high))
          ∙ ap₂ (λ (w q : ℕ). w + at_first begin q + behind) (s.weight p x l m) (place-position p x (omega arith));
    }

-- ---- all maps

-- a weight is at most the number of abstract states
weight-low :
    (c : List ℕ) → Valid c → (p x : ℕ) → p < positions c → x < label_count c p → weight_of c p x ≤ abstract_states c
weight-low c v p x l m =
    let n = positions c in
    let base = abstract_count c in
    let behind = place_value base (suc p) (n - suc p) in
    omega (
      arith,
      mul-le-mul_right behind (map_below c v p x m),
      suc-mul (map_at c p x) behind,
      place-more base n p l,
      place-below base (some-abstract c v.sized.headed) n p (omega arith),
      states-span c,
    )

at-first-low : (begin p : ℕ) → at_first begin p ≤ begin
at-first-low begin p = go (ltb p 1)
  where
    go : (t : Bool) → cond t begin 0 ≤ begin
    go true = omega arith
    go false = omega arith

module _ {b maps : List ℕ} (k : Mapped b maps) where
  -- none is packed yet
  pub packed_none :
      (i n : ℕ) (singles : List ℕ) → n ≡ 0 → ((j : ℕ) → get_or singles j 0 ≡ 0)
      → WeightsPacked b maps i n singles
  unfolding packed_from
  packed_none i n singles e zeros =
      record {
        weight = λ p x l m. zeros (16 * p + x) ∙ sym (ap (packed_from (place_weight b maps p x) i) e);
      }

  -- a weight with the beginning of its table fits 16 bits
  place-weight-low :
      (p x j : ℕ) → p < positions b → x < label_count b p → j < all_maps b maps → place_weight b maps p x j < 65536
  place-weight-low p x j l m n =
      let c = exercise_at b maps j in
      let same = exercise-alike b maps j in
      let count = ap (λ (f : ℕ → ℕ). f p) same.labels_same in
      let v = k.valid j (omega arith) in
      let begin = entries_before b maps j in
      omega (
        arith,
        weight-low c v p x (omega (arith, same.positions_same)) (omega (arith, count)),
        at-first-low begin p,
        table-within b maps j (omega arith),
        k.small,
        v.sized.headed.few,
      )

  -- one more map in front
  pub packed-next :
      (i n more begin : ℕ) (singles₀ singles₁ : List ℕ) → suc i + n ≡ all_maps b maps → more ≡ suc n
      → begin ≡ entries_before b maps i → WeightsPacked b maps (suc i) n singles₀
      → MapPlaced (exercise_at b maps i) begin singles₀ singles₁ → WeightsPacked b maps i more singles₁
  unfolding packed_from
  packed-next i n more begin singles₀ singles₁ e one at w a =
      record {
        weight = λ p x l m.
            let same = exercise-alike b maps i in
            let count = ap (λ (f : ℕ → ℕ). f p) same.labels_same in
            let weights = place_weight b maps p x in
            let fits =
            packed-three weights (suc i) n (λ j q r. place-weight-low p x j l m (omega arith)) (omega (arith, k.few)) in
            a.weight p x (omega (arith, same.positions_same)) (omega (arith, count))
            ∙ ap₂ (λ (y z : ℕ). weight_of (exercise_at b maps i) p x + at_first y p + 65536 * (z % three_ranks)) at
            (w.weight p x l m)
            ∙ ap (λ (z : ℕ). weights i + 65536 * z) (mod-eq_of_lt fits) ∙ sym (ap (packed_from weights i) one);
      }

  -- going down to the map in front of map i: where its table begins, and its weights in front
  module _ (i : ℕ) (some : 0 < i) (high : i ≤ further_maps b maps) where
    pub begin-less :
        (begin size : ℕ) → begin ≡ entries_before b maps (suc i)
        → size ≡ min (abstract_states (exercise_at b maps (suc (i - 1)))) 16385
        → (size ≤ begin) × (begin - size ≡ entries_before b maps (suc (i - 1))) × (begin - size ≤ 16384)
    begin-less begin size at e =
        let back : suc (i - 1) ≡ i = omega arith in
        let few = (k.valid i high).sized.headed.few in
        let exact : size ≡ abstract_states (exercise_at b maps i) =
        omega (arith, ap (λ (j : ℕ). abstract_states (exercise_at b maps j)) back) in
        let less = ap (entries_before b maps) back in
        (omega arith, omega arith, omega (arith, table-within b maps i high, k.small))

    pub further-packed :
        (begin : ℕ) (singles₀ singles₁ : List ℕ) → begin ≡ entries_before b maps (suc (i - 1))
        → WeightsPacked b maps (suc i) (further_maps b maps - i) singles₀
        → MapPlaced (exercise_at b maps (suc (i - 1))) begin singles₀ singles₁
        → WeightsPacked b maps (suc (i - 1)) (further_maps b maps - (i - 1)) singles₁
    further-packed begin singles₀ singles₁ at w a =
        let back : suc (i - 1) ≡ i = omega arith in
        packed-next (suc (i - 1)) (further_maps b maps - i) (further_maps b maps - (i - 1)) begin singles₀ singles₁
        (omega arith) (omega arith) at
        (subst (λ (j : ℕ). WeightsPacked b maps (suc j) (further_maps b maps - i) singles₀) (sym back) w) a

  -- the block's own map comes last
  pub own-packed :
      (i : ℕ) (singles₀ singles₁ : List ℕ) → i ≡ 0 → WeightsPacked b maps (suc i) (further_maps b maps - i) singles₀
      → MapPlaced b 0 singles₀ singles₁ → WeightsPacked b maps 0 (all_maps b maps) singles₁
  own-packed i singles₀ singles₁ e w a =
      packed-next 0 (further_maps b maps - i) (all_maps b maps) 0 singles₀ singles₁ (omega arith) (omega arith) refl
      (subst (λ (j : ℕ). WeightsPacked b maps (suc j) (further_maps b maps - i) singles₀) e w) a
