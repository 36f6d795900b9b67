-- The largest of estimates that are lower bounds is one (`largest-low`): so tables that pass, each under its own map,
-- give a lower bound together (`all-low`), whose numbers are at most the mark (`entries-small`). With no map lent the
-- tables are the block's own alone (`one_entry`, `one_passes`). `largest-next` is the step of a scan.
-- The search call's promises, and those of the calls on tables, rest on these.
use mathlib.Core.Path.{◌≡◌, sym, ap, ◌∙◌}
use mathlib.Core.Logic.{◌≢◌}
use mathlib.Core.Bool.{true}
use mathlib.Core.List.{List, []}
use Prim.Native.Nat.{ℕ, suc, ◌+◌, ◌-◌, ◌≤◌, ◌<◌, max}
use native.Mathlib.Numerals.{add-one}
use native.Mathlib.Omega.{arith}
use lib.ListN.{get_or, drop}
use lib.Seq.{get_or-drop}
use Rattle.basics.specs.Bounded.{all}
use Rattle.basics.specs.Sums.{largest_from}
use Rattle.basics.specs.Marks.{mark}
use Rattle.basics.proofs.Bounded.{all-at}
use Rattle.basics.proofs.Sums.{largest-above, largest-below}
use Rattle.blocks.specs.Layout.{cost_of}
use Rattle.blocks.specs.Remapping.{Alike}
use Rattle.psvn.specs.Rules.{step}
use Rattle.psvn.specs.Relabelling.{relabel_state}
use Rattle.psvn.specs.Ranks.{rank}
use Rattle.psvn.proofs.AlikeLaws.{state-alike, applies-alike, step-alike, meets-alike}
use Rattle.maps.specs.Maps.{all_maps, exercise_at, entries_before, Mapped}
use Rattle.maps.proofs.MapLaws.{exercise-alike, none_lent}
use Rattle.tables.specs.Tables.{entry, estimate, passes_test, LowerBound}
use Rattle.tables.proofs.Promises.{lower-bound}
use Rattle.map_tables.specs.MapTables.{table_at, entry_at, largest_entry, all_pass}

-- a lower bound for an exercise that is alike is one for this one
low_alike : {b c : List ℕ} → Alike b c → (h : List ℕ → ℕ) → LowerBound c h → LowerBound b h
low_alike {b} {c} k h low =
    record {
      goal = λ s ok m. low.goal s (state-alike k s ∙ ok) (meets-alike k s ∙ m);
      rule = λ s r ok l a n.
          rw (step-alike k s r, k.cost_same r) at
          (low.rule s r (state-alike k s ∙ ok) (omega (arith, k.rules_same)) (applies-alike k s r ∙ a)
          (λ e. n (ap h (sym (step-alike k s r)) ∙ e)));
    }

-- a number that is at most the mark and is not the mark, and what is below it
below-mark : (x : ℕ) → x ≢ mark → x ≤ mark → x < mark
below-mark x n h = omega arith

not-mark : (x : ℕ) → x < mark → x ≢ mark
not-mark x l e = omega arith

-- the largest of n of them
module _ (b : List ℕ) (h : ℕ → List ℕ → ℕ) (n : ℕ) (small : (j : ℕ) (s : List ℕ) → h j s ≤ mark) where
  abbrev together : List ℕ → ℕ
  together s = largest_from (λ j. h j s) 0 n

  pub together-small : (s : List ℕ) → together s ≤ mark
  together-small s = largest-below (λ j. h j s) 0 n mark (λ j l m. small j s)

  pub largest-low : ((j : ℕ) → j < n → LowerBound b (h j)) → LowerBound b together
  largest-low low =
      record {
        goal = λ s ok m.
            let z = largest-below (λ j. h j s) 0 n 0 (λ j l k. omega (arith, (low j (omega arith)).goal s ok m)) in
            omega arith;
        rule = λ s r ok l a unmarked.
            let after = together (step b r s) in
            let free = below-mark after unmarked (together-small (step b r s)) in
            let each : (j : ℕ) → j < n → (h j s < mark) × (h j s ≤ cost_of b r + after) = λ j k.
            let under = largest-above (λ i. h i (step b r s)) 0 n j (omega arith) (omega arith) in
            let (q, bound) = (low j k).rule s r ok l a (not-mark (h j (step b r s)) (omega arith)) in
            (below-mark (h j s) q (small j s), omega arith) in
            let top = largest-below (λ j. h j s) 0 n 4294967294 (λ j x k. omega (arith, (each j (omega arith)).0)) in
            let most = largest-below (λ j. h j s) 0 n (cost_of b r + after) (λ j x k. (each j (omega arith)).1) in
            (not-mark (together s) (omega arith), most);
      }

-- no estimate by a part of a table is above the mark, where no entry of the table is
estimate-small : (c t s : List ℕ) (n : ℕ) → ((i : ℕ) → get_or t i 0 ≤ mark) → estimate c (drop n t) s ≤ mark
unfolding estimate entry
estimate-small c t s n low =
    omega (arith, get_or-drop n t (rank c (relabel_state c s)) 0, low (n + rank c (relabel_state c s)))

module _ (b maps t : List ℕ) where
  entry-small : ((i : ℕ) → get_or t i 0 ≤ mark) → (j : ℕ) (s : List ℕ) → entry_at b maps t s j ≤ mark
  entry-small low j s = estimate-small _ t s (entries_before b maps j) low

  pub entries-small : ((i : ℕ) → get_or t i 0 ≤ mark) → (s : List ℕ) → largest_entry b maps t s ≤ mark
  unfolding largest_entry
  entries-small low s = together-small b (λ j s. entry_at b maps t s j) (all_maps b maps) (entry-small low) s

  pub all-low :
      Mapped b maps → ((i : ℕ) → get_or t i 0 ≤ mark) → all_pass b maps t ≡ true → LowerBound b (largest_entry b maps t)
  unfolding largest_entry all_pass
  all-low k low passing =
      largest-low b (λ j s. entry_at b maps t s j) (all_maps b maps) (entry-small low) (λ j l.
      low_alike (exercise-alike b maps j) (estimate (exercise_at b maps j) (table_at b maps t j))
      (lower-bound (exercise_at b maps j) (k.valid j (omega arith)) (table_at b maps t j)
      (all-at (λ j. passes_test (exercise_at b maps j) (table_at b maps t j)) (all_maps b maps) passing j l)))

-- the largest so far together with what is left, before and after number i of those behind the first
pub largest-next :
    (f : ℕ → ℕ) (x i n : ℕ) → i < n
    → max x (largest_from f (suc i) (n - i)) ≡ max (max x (f (suc i))) (largest_from f (suc (i + 1)) (n - (i + 1)))
largest-next f x i n l =
    let e : n - i ≡ suc (n - (i + 1)) = omega arith in
    ap (λ (k : ℕ). max x (largest_from f (suc i) k)) e
    ∙ regroup x (f (suc i)) (largest_from f (suc (suc i)) (n - (i + 1)))
    ∙ ap (λ (k : ℕ). max (max x (f (suc i))) (largest_from f (suc k) (n - (i + 1)))) (sym (add-one i))
  where
    regroup : (a b c : ℕ) → max a (max b c) ≡ max (max a b) c
    regroup a b c = omega arith

-- no map lent
alone : (x : ℕ) → max x 0 ≡ x
alone x = omega arith

module _ (b t : List ℕ) where
  pub one_entry : (s : List ℕ) → largest_entry b [] t s ≡ estimate b t s
  unfolding largest_entry
  one_entry s = ap (λ (n : ℕ). largest_from (entry_at b [] t s) 0 (suc n)) (none_lent b) ∙ alone (estimate b t s)

  pub one_passes : all_pass b [] t ≡ passes_test b t
  unfolding all_pass
  one_passes = ap (λ (n : ℕ). all (suc n) (λ j. passes_test (exercise_at b [] j) (table_at b [] t j))) (none_lent b)
