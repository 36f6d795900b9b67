-- Ranks under all maps in one number: where the weights of labels are packed, the weights of a state's labels together
-- are the places of its entries (`packed-ranks`), and each of them is low (`place-low`, `all-ranks-low`).
-- Preparing a block rests on these.
use mathlib.Core.Path.{◌≡◌, refl, sym, ap, ap₂, ◌∙◌}
use mathlib.Core.Bool.{Bool, true, cond}
use mathlib.Core.List.{List}
use Prim.Native.Nat.{ℕ, zero, suc, ◌+◌, ◌%◌, ◌≤◌, ◌<◌}
use native.Mathlib.Nat.{mod-eq_of_lt}
use native.Mathlib.Omega.{arith}
use lib.ListN.{get_or}
use borrow.Author.Tests.{le-ltb}
use Rattle.basics.specs.Sums.{sum_to, packed_from}
use Rattle.basics.proofs.Sums.{sum-ext, sum-add, packed-ext, packed-sum, packed-low, packed-rest, packed-four}
use Rattle.blocks.specs.Layout.{positions}
use Rattle.blocks.specs.States.{state_ok}
use Rattle.blocks.proofs.StateLaws.{state-label}
use Rattle.psvn.specs.Relabelling.{relabel_state}
use Rattle.psvn.proofs.AlikeLaws.{state-alike}
use Rattle.psvn.proofs.RankLaws.{rank_below}
use Rattle.psvn.proofs.Stepping.{relabelled-state}
use Rattle.maps.specs.Maps.{all_maps, exercise_at, entries_before, all_entries, Mapped}
use Rattle.maps.proofs.MapLaws.{exercise-alike, table-within}
use Rattle.words.specs.Ranking.{weight_of}
use Rattle.words.specs.Changes.{word_span, label_weight, map_count, ranks_of, RanksLow}
use Rattle.words.proofs.WordRanks.{labels_rank, labels-rank}
use Rattle.preparing.specs.Weights.{at_first, place_weight, WeightsPacked}
use Rattle.preparing.specs.Prepared.{entry_place, Packed}

-- what position 0 has besides is there once
sum_first : (begin n : ℕ) → sum_to (at_first begin) (suc n) ≡ begin
sum_first begin zero = omega arith
sum_first begin (suc n) =
    ap₂ ◌+◌ (sum_first begin n) (ap (λ (t : Bool). cond t begin 0) (le-ltb (suc n) 1 (omega arith))) ∙ omega arith

labels-sum : (c s : List ℕ) (n : ℕ) → sum_to (λ p. weight_of c p (get_or s p 0)) n ≡ labels_rank c s n
labels-sum c s zero = refl
labels-sum c s (suc n) = ap (λ (x : ℕ). x + weight_of c n (get_or s n 0)) (labels-sum c s n)

module _ (b maps : List ℕ) (k : Mapped b maps) (s : List ℕ) (ok : state_ok b s ≡ true) where
  -- the place of the entry under a map is within all entries
  pub place-low : (j : ℕ) → j < all_maps b maps → entry_place b maps s j < all_entries b maps
  place-low j l =
      let c = exercise_at b maps j in
      let v = k.valid j (omega arith) in
      let ok' = state-alike (exercise-alike b maps j) s ∙ ok in
      omega (
        arith,
        rank_below c (relabel_state c s) (relabelled-state c v s ok'),
        table-within b maps j (omega arith),
      )

  -- the weights of the labels under map j are the place of the entry there
  place-sum :
      (j n : ℕ) → 1 ≤ n → n ≡ positions b
      → sum_to (λ p. place_weight b maps p (get_or s p 0) j) n ≡ entry_place b maps s j
  place-sum j zero low e = absurd (omega arith)
  place-sum j (suc n) low e =
      let c = exercise_at b maps j in
      let begin = entries_before b maps j in
      let same = (exercise-alike b maps j).positions_same in
      let w = sum-add (λ p. weight_of c p (get_or s p 0)) (at_first begin) (suc n) in
      let l = labels-sum c s (suc n) ∙ ap (labels_rank c s) (e ∙ sym same) ∙ labels-rank c s in
      omega (arith, w, l, sum_first begin n)

  pub packed-ranks :
      (singles : List ℕ) → WeightsPacked b maps 0 (all_maps b maps) singles
      → ranks_of singles (positions b) s ≡ packed_from (entry_place b maps s) 0 (all_maps b maps)
  unfolding ranks_of
  packed-ranks singles w =
      let n = positions b in
      let m = all_maps b maps in
      let sums : sum_to (λ p. label_weight singles p (get_or s p 0)) n ≡ packed_from (entry_place b maps s) 0 m =
      sum-ext (λ p. label_weight singles p (get_or s p 0))
      (λ p. packed_from (place_weight b maps p (get_or s p 0)) 0 m) n
      (λ p l. w.weight p (get_or s p 0) l (state-label b s ok p l))
      ∙ packed-sum (λ j p. place_weight b maps p (get_or s p 0) j) 0 m n
      ∙ packed-ext (λ j. sum_to (λ p. place_weight b maps p (get_or s p 0) j) n) (entry_place b maps s) 0 m
      (λ j l h. place-sum j n (k.valid 0 (omega arith)).sized.headed.sizes.n_low refl) in
      ap (λ (x : ℕ). x % word_span) sums ∙ mod-eq_of_lt
      (packed-four (entry_place b maps s) 0 m (λ j l h. omega (arith, place-low j (omega arith), k.small))
      (omega (arith, k.few)))

-- numbers below 16,384 in one number are read back
packed-all-low :
    (f : ℕ → ℕ) (i n : ℕ) → ((j : ℕ) → i ≤ j → j < i + n → f j < 16384) → RanksLow (packed_from f i n) n
packed-all-low f i zero low = tt
packed-all-low f i (suc n) low =
    let l = low i (omega arith) (omega arith) in (
      rw (packed-low f i n (omega arith)) l,
      rw (packed-rest f i n (omega arith)) (packed-all-low f (suc i) n (λ j x y. low j (omega arith) (omega arith))),
    )

-- the ranks of all states are low
pub all-ranks-low :
    (b maps changes : List ℕ) → Mapped b maps → Packed b maps changes → (s : List ℕ) → state_ok b s ≡ true
    → RanksLow (ranks_of changes (positions b) s) (map_count changes)
all-ranks-low b maps changes k p s ok =
    rw (p.ranks s ok, p.maps_told)
    (packed-all-low (entry_place b maps s) 0 (all_maps b maps) (λ j l m.
    omega (arith, place-low b maps k s ok j (omega arith), k.small)))
