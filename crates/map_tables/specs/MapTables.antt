-- The tables of an exercise under all its maps, behind one another in one list, the block's own first (document 02,
-- F-2): the table of each map (`table_at`), the largest of a state's entries (`largest_entry`), and the lower-bound
-- test of each table under its own map (`all_pass`). Each is an ordinary table of the exercise under its map.
use Rattle.std.specs.Prelude.{Bool, List, ℕ, drop}
use Rattle.basics.specs.Bounded.{all}
use Rattle.basics.specs.Sums.{largest_from}
use Rattle.maps.specs.Maps.{all_maps, exercise_at, entries_before}
use Rattle.tables.specs.Tables.{estimate, passes_test}

-- the table of map j, which stands behind those of the maps before it
abbrev pub table_at : List ℕ → List ℕ → List ℕ → ℕ → List ℕ
table_at b maps t j = drop (entries_before b maps j) t

-- the entry of a state in the table of map j: its estimate under that map
abbrev pub entry_at : List ℕ → List ℕ → List ℕ → List ℕ → ℕ → ℕ
entry_at b maps t s j = estimate (exercise_at b maps j) (table_at b maps t j) s

-- the estimate of a state: the largest of its entries. The mark is above all, as it is the largest number of 32 bits
unfoldable pub largest_entry : List ℕ → List ℕ → List ℕ → List ℕ → ℕ
largest_entry b maps t s = largest_from (entry_at b maps t s) 0 (all_maps b maps)

-- every table passes the lower-bound test under its own map
unfoldable pub all_pass : List ℕ → List ℕ → List ℕ → Bool
all_pass b maps t = all (all_maps b maps) (λ j. passes_test (exercise_at b maps j) (table_at b maps t j))
