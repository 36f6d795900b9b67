-- The filled tables of all maps behind one another: as many entries as all tables have (`filled-to`,
-- `all-filled-length`); whatever stands behind them, each entry is the least cost under its map and every table passes
-- (`all-filled-front`); with no map lent they are the block's own filled table (`one-filled`).
-- The loop that fills them rests on the first, the call that fills tables on the others.
use mathlib.Core.Path.{◌≡◌, ap, ◌∙◌}
use mathlib.Core.Bool.{true}
use mathlib.Core.List.{List, []}
use Prim.Native.Nat.{ℕ, suc, ◌+◌, ◌≤◌, ◌<◌}
use native.Mathlib.Omega.{arith}
use lib.ListN.{length, get_or, drop, get_or-append}
use lib.Seq.{get_or-drop}
use Rattle.basics.specs.Lists.{Bytes, joined, at_front}
use Rattle.basics.proofs.Bounded.{all-intro}
use Rattle.basics.proofs.Lists.{length-joined-sum, get_or-joined-sum}
use Rattle.blocks.specs.Layout.{abstract_states}
use Rattle.psvn.specs.Relabelling.{relabel_block}
use Rattle.psvn.specs.Ranks.{unrank}
use Rattle.psvn.proofs.Relabelled.{abstract-states-relabelled}
use Rattle.psvn.proofs.RankLaws.{unrank-abstract, rank-unrank}
use Rattle.distances.proofs.Passing.{passes_same}
use Rattle.maps.specs.Maps.{all_maps, exercise_at, entries_before, all_entries, Mapped}
use Rattle.maps.proofs.MapLaws.{exercise-alike, table-within, none_lent}
use Rattle.tables.specs.Abstraction.{graph_of}
use Rattle.tables.specs.Tables.{entry, passes_test}
use Rattle.filling.specs.FilledTables.{filled, CostBytes, LeastCost}
use Rattle.filling.proofs.LeastEntries.{cost-bytes, filled_least, filled-passes, filled-length}
use Rattle.map_tables.specs.MapTables.{table_at, all_pass}
use Rattle.map_fills.specs.MapFills.{all_filled, LeastEntries}

-- the filled table of map j
abbrev pub filled_at : List ℕ → List ℕ → ℕ → List ℕ
filled_at b maps j = filled (exercise_at b maps j)

module _ (b maps : List ℕ) (bytes : Bytes b) (k : Mapped b maps) where
  -- costs are those of the block
  costs-at : (j : ℕ) → CostBytes (exercise_at b maps j)
  costs-at j r l =
      let same = exercise-alike b maps j in
      omega (arith, same.cost_same r, cost-bytes b bytes r (omega (arith, same.rules_same)))

  length_at : (j : ℕ) → j < all_maps b maps → length (filled_at b maps j) ≡ abstract_states (exercise_at b maps j)
  length_at j l = filled-length (exercise_at b maps j) (k.valid j (omega arith)) (costs-at j)

  -- those of the first n maps
  pub filled-to : (n : ℕ) → n ≤ all_maps b maps → length (joined n (filled_at b maps)) ≡ entries_before b maps n
  filled-to n l =
      length-joined-sum (filled_at b maps) (λ j. abstract_states (exercise_at b maps j)) n (λ j m.
      length_at j (omega arith))

  pub all-filled-length : length (all_filled b maps) ≡ all_entries b maps
  unfolding all_filled
  all-filled-length = filled-to (all_maps b maps) (omega arith)

  -- the entries of the table of map j, whatever stands behind all tables
  module _ (t : List ℕ) (j : ℕ) (l : j < all_maps b maps) where
    abbrev own : List ℕ
    own = table_at b maps (at_front (all_filled b maps) t) j

    own-entry : (i : ℕ) → i < abstract_states (exercise_at b maps j) → get_or own i 0 ≡ get_or (filled_at b maps j) i 0
    unfolding all_filled
    own-entry i m =
        let from = entries_before b maps j in
        let whole = all_filled b maps in
        get_or-drop from (at_front whole t) i 0
        ∙ get_or-append whole (drop (length whole) t) 0 (from + i)
        (omega (arith, all-filled-length, table-within b maps j (omega arith)))
        ∙ get_or-joined-sum (filled_at b maps) (λ j. abstract_states (exercise_at b maps j)) (all_maps b maps) length_at
        j i l m

    own-least :
        (i : ℕ) → i < abstract_states (exercise_at b maps j)
        → LeastCost (relabel_block (exercise_at b maps j)) (unrank (exercise_at b maps j) i) (get_or own i 0)
    unfolding entry
    own-least i m =
        let c = exercise_at b maps j in
        let v = k.valid j (omega arith) in
        let head = v.sized.headed in
        let least = filled_least c v (costs-at j) (unrank c i) (unrank-abstract c head i) in
        rw (own-entry i m) (rw (rank-unrank c head i m) at least)

    own-passes : passes_test (exercise_at b maps j) own ≡ true
    unfolding passes_test
    own-passes =
        let c = exercise_at b maps j in
        passes_same (graph_of (relabel_block c)) (filled c) own (λ i m.
        own-entry i (omega (arith, abstract-states-relabelled c)))
        (filled-passes c (k.valid j (omega arith)) (costs-at j))

pub all-filled-front :
    (b maps t : List ℕ) → Bytes b → Mapped b maps → LeastEntries b maps (at_front (all_filled b maps) t)
unfolding all_pass
all-filled-front b maps t bytes k =
    record {
      least = λ j i l m. own-least b maps bytes k t j l i m;
      passing =
          all-intro
          (λ j. passes_test (exercise_at b maps j) (table_at b maps (at_front (all_filled b maps) t) j))
          (all_maps b maps) (own-passes b maps bytes k t);
    }

-- no map lent
pub one-filled : (b : List ℕ) → all_filled b [] ≡ filled b
unfolding all_filled
one-filled b = ap (λ (n : ℕ). joined (suc n) (filled_at b [])) (none_lent b)
