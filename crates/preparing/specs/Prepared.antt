-- A block that is prepared for searches: compiled, with its sets of rules and what its rules add to ranks (`Prepared`),
-- so that the ranks of each state tell where its entries stand under all maps (`Packed`).
-- The search asks for the first, and finds its estimates by the second.
use Rattle.std.specs.Prelude.{◌≡◌, true, List, ℕ, ◌+◌, ◌<◌}
use Rattle.basics.specs.Sums.{packed_from}
use Rattle.blocks.specs.Layout.{positions, rules}
use Rattle.blocks.specs.States.{state_ok}
use Rattle.psvn.specs.Relabelling.{relabel_state}
use Rattle.psvn.specs.Ranks.{rank}
use Rattle.maps.specs.Maps.{all_maps, exercise_at, entries_before}
use Rattle.words.specs.Compiled.{Compiled}
use Rattle.words.specs.Changes.{map_count, ranks_of, RanksLow, Changed}
use Rattle.rule_sets.specs.Plain.{Sets}

-- where the entry of the state s stands under map j: behind the tables of the maps before it
abbrev pub entry_place : List ℕ → List ℕ → List ℕ → ℕ → ℕ
entry_place b maps s j = entries_before b maps j + rank (exercise_at b maps j) (relabel_state (exercise_at b maps j) s)

-- the ranks of each state are the places of its entries under all maps
pub record Packed (b maps changes : List ℕ) : Type 0 where
  pub maps_told : map_count changes ≡ all_maps b maps
  pub ranks :
      (s : List ℕ) → state_ok b s ≡ true
      → ranks_of changes (positions b) s ≡ packed_from (entry_place b maps s) 0 (all_maps b maps)

-- the arrays are compiled from the block, with its sets of rules and what its rules add to ranks, which are all low
pub record Prepared (b code changes : List ℕ) : Type 0 where
  pub compiled : Compiled b code
  pub rule_sets : Sets code (rules b) (positions b)
  pub changed : Changed b changes
  pub some_map : 0 < map_count changes
  pub ranks_low : (s : List ℕ) → state_ok b s ≡ true → RanksLow (ranks_of changes (positions b) s) (map_count changes)
