-- Looking up an estimate by the tables of all maps, as a public call: `look_up_estimate` is the answer, for every
-- input, and `EstimateKept` what the call promises.
use Rattle.std.specs.Prelude.{◌≡◌, ◌≢◌, true, ℕ, ◌≤◌, List, [], ◌∷◌, ◌++◌, leb, length}
use Rattle.basics.specs.Marks.{mark}
use Rattle.refusals.specs.Answers.{Answer, refused, told, Condition, ◌unless◌, verdict, answered}
use Rattle.blocks.specs.States.{state_ok}
use Rattle.psvn.specs.Runs.{reaches, total_cost}
use Rattle.maps.specs.Maps.{all_entries, exercise_conditions}
use Rattle.map_tables.specs.MapTables.{largest_entry, all_pass}

-- 3 to 7, 14, 15, then 8 and 12; `room` is the length of the table, which is to hold the tables of all maps
unfoldable pub look_up_conditions : List ℕ → List ℕ → List ℕ → ℕ → List Condition
look_up_conditions b maps s room =
    exercise_conditions b maps ++ (8 unless state_ok b s ∷ 12 unless leb (all_entries b maps) room ∷ [])

-- the largest of the state's entries
unfoldable pub look_up_estimate : List ℕ → List ℕ → List ℕ → List ℕ → Answer ℕ
look_up_estimate b maps s t = answered (verdict (look_up_conditions b maps s (length t))) (largest_entry b maps t s)

-- by tables that pass, the entry is at most the cost of every list that reaches a goal from s, and the mark only where
-- no list does
abbrev pub EstimateKept : List ℕ → List ℕ → List ℕ → List ℕ → Answer ℕ → Type 0
EstimateKept b maps s t (told entry) =
    all_pass b maps t ≡ true → (rs : List ℕ) → reaches b s rs ≡ true → (entry ≢ mark) × (entry ≤ total_cost b rs)
EstimateKept b maps s t (refused number) = Unit {0}
