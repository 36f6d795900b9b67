-- Filling and testing the tables of all maps, as public calls: `fill_table` is the answer with the final contents of
-- the lent table, `test_table` the answer, for every input; `FillingKept` and `TableTestKept` are what they promise.
-- `table_conditions` turn both calls back.
use Rattle.std.specs.Prelude.{◌≡◌, ℕ, Bool, true, false, List, [], ◌∷◌, ◌++◌, leb, length}
use Rattle.basics.specs.Lists.{at_front}
use Rattle.refusals.specs.Answers.{Answer, refused, told, Condition, ◌unless◌, verdict, answered}
use Rattle.refusals.specs.Answers.{Outcome, outcome, guarded}
use Rattle.maps.specs.Maps.{all_entries, exercise_conditions}
use Rattle.tables.specs.Tables.{NeverTooHigh}
use Rattle.map_tables.specs.MapTables.{largest_entry, all_pass}
use Rattle.map_fills.specs.MapFills.{all_filled, LeastEntries}

-- 3 to 7, 14, 15, then 12; `room` is the length of the table, which is to hold the tables of all maps
unfoldable pub table_conditions : List ℕ → List ℕ → ℕ → List Condition
table_conditions b maps room = exercise_conditions b maps ++ (12 unless leb (all_entries b maps) room ∷ [])

-- the filled tables stand at the front, the block's own first; further elements keep their contents
unfoldable pub fill_table : List ℕ → List ℕ → List ℕ → Outcome (Unit {0})
fill_table b maps t =
    guarded (verdict (table_conditions b maps (length t))) t (outcome (told tt) (at_front (all_filled b maps) t))

-- each entry is the least cost under its map, and every table passes the lower-bound test
abbrev pub FillingKept : List ℕ → List ℕ → Answer (Unit {0}) → List ℕ → Type 0
FillingKept b maps (told u) t = LeastEntries b maps t
FillingKept b maps (refused number) t = Unit {0}

-- passes or fails
unfoldable pub test_table : List ℕ → List ℕ → List ℕ → Answer Bool
test_table b maps t = answered (verdict (table_conditions b maps (length t))) (all_pass b maps t)

-- 'passes' says that no estimate by the tables is too high
abbrev pub TableTestKept : List ℕ → List ℕ → List ℕ → Answer Bool → Type 0
TableTestKept b maps t (told true) = NeverTooHigh b (largest_entry b maps t)
TableTestKept b maps t (told false) = all_pass b maps t ≡ false
TableTestKept b maps t (refused number) = Unit {0}
