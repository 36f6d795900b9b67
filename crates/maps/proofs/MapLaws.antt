-- What holds of further maps: the exercise under each map differs from the block at most in K and the map
-- (`exercise-alike`), and is read back where it was written (`exercise-part`); a further map lies in what is lent
-- (`map-within`), and how many entries its table has (`further-entries`, `entries-more`, `table-within`); accepted maps
-- are `Mapped` (`maps-accepted`, `exercise-accepted`), and the entries of each are counted in full (`counted`,
-- `entries-whole`); with no map lent the only exercise is the block itself (`none_lent`, `none-entries`), and only the
-- block turns it back (`none-mapped`, `none-conditions`).
-- Tables under several maps, and the search by them, rest on these.
use mathlib.Core.Path.{◌≡◌, refl, sym, ap, ap₂, ◌∙◌}
use Prim.Native.Nat.{ℕ, zero, suc, ◌+◌, ◌*◌, ◌%◌, ◌^◌, ◌≤◌, ◌<◌, min}
use native.Mathlib.Nat.{div-add-mod', zero-div, zero-mod, suc-mul, mul-le-mul_right}
use native.Mathlib.Numerals.{add-one}
use native.Mathlib.Omega.{arith}
use mathlib.Core.Bool.{Bool, true}
use mathlib.Core.List.{List, [], ◌∷◌, ◌++◌}
use lib.Dec.{leb, ltb, eqb}
use lib.ListN.{length, take}
use borrow.Author.Tests.{leb-true, eqb-true, ltb-true, lt-ltb, eq-eqb, le-leb}
use Rattle.basics.specs.Bounded.{all}
use Rattle.basics.specs.Lists.{at_front}
use Rattle.basics.proofs.Bounded.{all-at, all-intro}
use Rattle.basics.proofs.Lists.{front-taken, front_fits}
use Rattle.basics.proofs.Truth.{and-true, and_intro}
use Rattle.basics.proofs.Sums.{sum-rises}
use Rattle.refusals.specs.Answers.{Answer, refused, told, Condition, verdict, ◌unless◌}
use Rattle.refusals.proofs.Verdicts.{verdict-told, verdict-parts, verdict-before, verdict-behind}
use Rattle.blocks.specs.Layout.{positions, labels, abstracts, map_byte, abstract_states}
use Rattle.blocks.specs.Validity.{within, map_ok, block_conditions, Sized, Valid}
use Rattle.blocks.specs.Remapping.{remapped, Alike}
use Rattle.blocks.proofs.Accepted.{accepted-valid}
use Rattle.blocks.proofs.RemappingLaws.{remapped-alike, remapped-abstracts, remapped-map, labels-alike, alike-valid}
use Rattle.maps.specs.Maps.{map_width, further_maps, all_maps, further_map, further_abstracts, further_byte}
use Rattle.maps.specs.Maps.{exercise_at}
use Rattle.maps.specs.Maps.{entries_before, all_entries, maps_whole, further_ok, maps_ok, map_conditions}
use Rattle.maps.specs.Maps.{exercise_conditions, Mapped}

-- an exercise is like itself
alike-itself : (b : List ℕ) → Alike b b
alike-itself b =
    record {
      positions_same = refl;
      labels_same = refl;
      rules_same = refl;
      goals_same = refl;
      cost_same = λ r. refl;
      left_same = λ r i. refl;
      right_same = λ r i. refl;
      goal_same = λ g i. refl;
      length_same = refl;
      size_same = refl;
    }

pub exercise-alike : (b maps : List ℕ) (j : ℕ) → Alike b (exercise_at b maps j)
exercise-alike b maps zero = alike-itself b
exercise-alike b maps (suc i) = remapped-alike b (further_map b maps i)

module _ (b maps : List ℕ) where
  -- a buffer that the exercise under map j was written into: its first part is that exercise
  module _ (j : ℕ) (old own : List ℕ) (e : own ≡ at_front (exercise_at b maps j) old) where
    pub exercise-part : take (length b) own ≡ exercise_at b maps j
    exercise-part =
        ap (take (length b)) e
        ∙ front-taken (exercise_at b maps j) old (length b) (sym (exercise-alike b maps j).length_same)

    pub exercise-length : length b ≡ length (take (length b) own)
    exercise-length = sym (ap length exercise-part ∙ (exercise-alike b maps j).length_same)

    pub exercise-fits : length b ≤ length own
    exercise-fits =
        omega (arith, ap length e, front_fits (exercise_at b maps j) old, (exercise-alike b maps j).length_same)

  -- the table of map j ends within all entries
  pub table-within :
      (j : ℕ) → j ≤ further_maps b maps
      → entries_before b maps j + abstract_states (exercise_at b maps j) ≤ all_entries b maps
  table-within j l = sum-rises (λ i. abstract_states (exercise_at b maps i)) (suc j) (all_maps b maps) (omega arith)

  -- one table more
  pub entries-more :
      (i : ℕ)
      → entries_before b maps (suc (i + 1))
      ≡ entries_before b maps (suc i) + abstract_states (exercise_at b maps (suc i))
  entries-more i = ap (λ (k : ℕ). entries_before b maps (suc k)) (add-one i)

  -- the record of a further map lies in what is lent
  pub map-within : (i : ℕ) → i < further_maps b maps → i * map_width b + map_width b ≤ length maps
  unfolding further_maps
  map-within i l =
      omega (
        arith,
        suc-mul i (map_width b),
        mul-le-mul_right (map_width b) l,
        div-add-mod' (length maps) (map_width b),
      )

  -- K and the entries of a further map
  module _ (h : Sized b) (i : ℕ) where
    pub further-abstracts-is : abstracts (exercise_at b maps (suc i)) ≡ further_abstracts b maps i
    further-abstracts-is = remapped-abstracts b (further_map b maps i) h

    pub further-entries : abstract_states (exercise_at b maps (suc i)) ≡ further_abstracts b maps i ^ positions b
    unfolding abstract_states
    further-entries = ap₂ ◌^◌ further-abstracts-is (remapped-alike b (further_map b maps i)).positions_same

  -- what a further map that is right keeps to
  pub further-parts :
      (i : ℕ) → further_ok b maps i ≡ true
      → (1 ≤ further_abstracts b maps i)
      × (further_abstracts b maps i ≤ labels b)
      × ((x : ℕ) → x < labels b → further_byte b maps i x < further_abstracts b maps i)
  unfolding further_ok
  further-parts i ok =
      let K = further_abstracts b maps i in
      let (range, bytes) = and-true (within 1 K (labels b)) (all (labels b) (λ x. ltb (further_byte b maps i x) K)) ok
      in
      let (low, high) = and-true (leb 1 K) (leb K (labels b)) range in (
        leb-true 1 K low,
        leb-true K (labels b) high,
        λ x l. ltb-true (further_byte b maps i x) K
            (all-at (λ x. ltb (further_byte b maps i x) K) (labels b) bytes x l),
      )

  -- whole records
  whole-records : length maps % map_width b ≡ 0 → length maps ≡ further_maps b maps * map_width b
  unfolding further_maps
  whole-records e = omega (arith, div-add-mod' (length maps) (map_width b), e)

  module _ (v : Valid b) where
    -- the exercise under a further map that is right
    further-valid :
        (i : ℕ) → further_ok b maps i ≡ true → abstract_states (exercise_at b maps (suc i)) ≤ 16384
        → Valid (exercise_at b maps (suc i))
    unfolding map_ok
    further-valid i ok few =
        let m = further_map b maps i in
        let K = further_abstracts b maps i in
        let (low, high, bytes) = further-parts i ok in
        let k = remapped-alike b m in
        let e = remapped-abstracts b m v.sized in
        let l = labels-alike k in
        alike-valid k v (omega (arith, e, low)) (omega (arith, e, high)) few
        (all-intro (λ x. ltb (map_byte (remapped b m) x) (abstracts (remapped b m))) (labels (remapped b m)) (λ x lx.
        lt-ltb (map_byte (remapped b m) x) (abstracts (remapped b m))
        (omega (arith, bytes x (omega arith), e, remapped-map b m v.sized x (omega arith)))))

    pub maps-accepted : verdict (map_conditions b maps) ≡ told tt → Mapped b maps
    unfolding map_conditions maps_whole maps_ok
    maps-accepted h =
        let c₁₅ = 15 unless maps_ok b maps in
        let p = verdict-told 14 (maps_whole b maps) (c₁₅ ∷ []) h in
        let q = verdict-told 15 (maps_ok b maps) [] p.1 in
        let (exact, few) = and-true (eqb (length maps % map_width b) 0) (leb (further_maps b maps) 3) p.0 in
        let (each, small) =
        and-true (all (further_maps b maps) (further_ok b maps)) (leb (all_entries b maps) 16384) q.0 in
        let fit = leb-true (all_entries b maps) 16384 small in
        record {
          whole = whole-records (eqb-true (length maps % map_width b) 0 exact);
          few = leb-true (further_maps b maps) 3 few;
          valid = λ j l. valid-at j l each fit;
          small = fit;
        }
      where
        valid-at :
            (j : ℕ) → j ≤ further_maps b maps → all (further_maps b maps) (further_ok b maps) ≡ true
            → all_entries b maps ≤ 16384 → Valid (exercise_at b maps j)
        valid-at zero l each fit = v
        valid-at (suc i) l each fit =
            further-valid i (all-at (further_ok b maps) (further_maps b maps) each i l)
            (omega (arith, fit, table-within (suc i) l))

  pub exercise-accepted : verdict (exercise_conditions b maps) ≡ told tt → Mapped b maps
  unfolding exercise_conditions
  exercise-accepted h =
      let p = verdict-parts (block_conditions b) (map_conditions b maps) h in
      maps-accepted (accepted-valid b p.0) p.1

-- ---- accepted maps

module _ (b maps : List ℕ) (h : Mapped b maps) (i : ℕ) (l : i < further_maps b maps) where
  -- the entries of a further map can be counted, and are not cut off
  pub counted : Sized b × (i < further_maps b maps) × (1 ≤ abstracts (exercise_at b maps (suc i)))
  counted = ((h.valid 0 (omega arith)).sized, l, (h.valid (suc i) l).sized.headed.sizes.k_low)

  pub entries-whole :
      min (abstract_states (exercise_at b maps (suc i))) 16385 ≡ abstract_states (exercise_at b maps (suc i))
  entries-whole = let few = (h.valid (suc i) l).sized.headed.few in omega arith

-- ---- no map lent

pub none_lent : (b : List ℕ) → further_maps b [] ≡ 0
unfolding further_maps
none_lent b = zero-div (map_width b)

-- the only table is the block's own
pub none-entries : (b : List ℕ) → all_entries b [] ≡ abstract_states b
none-entries b = let e = ap (λ (n : ℕ). entries_before b [] (suc n)) (none_lent b) in omega arith

-- and nothing more turns the exercise back
none-refused : (b : List ℕ) → Valid b → verdict (map_conditions b []) ≡ told tt
unfolding map_conditions maps_whole maps_ok
none-refused b v =
    let whole =
    and_intro (eqb (0 % map_width b) 0) (leb (further_maps b []) 3)
    (eq-eqb (0 % map_width b) 0 (zero-mod (map_width b)))
    (le-leb (further_maps b []) 3 (omega (arith, none_lent b))) in
    let right =
    and_intro (all (further_maps b []) (further_ok b [])) (leb (all_entries b []) 16384)
    (all-intro (further_ok b []) (further_maps b []) (λ i l. absurd (omega (arith, none_lent b))))
    (le-leb (all_entries b []) 16384 (omega (arith, none-entries b, v.sized.headed.few))) in
    ap₂ (λ (x y : Bool). verdict (14 unless x ∷ 15 unless y ∷ [])) whole right

pub none-mapped : (b : List ℕ) → Valid b → Mapped b []
none-mapped b v = maps-accepted b [] v (none-refused b v)

module _ (b : List ℕ) (cs : List Condition) where
  none-by :
      (v : Answer (Unit {0})) → verdict (block_conditions b) ≡ v
      → verdict (exercise_conditions b [] ++ cs) ≡ verdict (block_conditions b ++ cs)
  unfolding exercise_conditions
  none-by (refused n) h =
      verdict-before (exercise_conditions b []) cs n (verdict-before (block_conditions b) (map_conditions b []) n h)
      ∙ sym (verdict-before (block_conditions b) cs n h)
  none-by (told u) h =
      verdict-behind (exercise_conditions b []) cs
      (verdict-behind (block_conditions b) (map_conditions b []) h ∙ none-refused b (accepted-valid b h))
      ∙ sym (verdict-behind (block_conditions b) cs h)

  pub none-conditions : verdict (exercise_conditions b [] ++ cs) ≡ verdict (block_conditions b ++ cs)
  none-conditions = none-by (verdict (block_conditions b)) refl
