-- `map_tables::all_pass_lem` meets its contract.
-- The loop's invariant: the tables passed pass the test, each under its own map.
use Rattle.std.proofs.Common.{◌≡◌, true, Bool, List, ℕ, suc, ◌+◌, ◌<◌}
use Rattle.maps.specs.Maps.{exercise_at, entries_before}
use Rattle.tables.specs.Tables.{passes_test}
use Rattle.map_tables.specs.MapTables.{table_at}
use Rattle.map_tables.proofs.all_pass.Given as goal

-- the test of the table of one map
abbrev pub holds : List ℕ → List ℕ → List ℕ → ℕ → Bool
holds b maps t j = passes_test (exercise_at b maps j) (table_at b maps t j)

abbrev pub invariant-loop-i : goal.invariant-loop-i
invariant-loop-i l =
    (l.at ≡ entries_before l.block l.maps (suc l.i))
    × ((j : ℕ) → j < l.i + 1 → holds l.block l.maps l.table j ≡ true)
