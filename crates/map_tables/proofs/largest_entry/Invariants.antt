-- `map_tables::largest_entry` meets its contract.
-- The loop's invariant: the largest so far, with the largest of what is left, is the largest of all.
use Rattle.std.proofs.Common.{◌≡◌, suc, ◌-◌, max}
use Rattle.basics.specs.Sums.{largest_from}
use Rattle.maps.specs.Maps.{further_maps, entries_before}
use Rattle.map_tables.specs.MapTables.{entry_at, largest_entry}
use Rattle.map_tables.proofs.largest_entry.Given as goal

abbrev pub invariant-loop-i : goal.invariant-loop-i
invariant-loop-i l =
    (l.at ≡ entries_before l.block l.maps (suc l.i))
    × (max l.largest
    (largest_from (entry_at l.block l.maps l.table l.state) (suc l.i) (further_maps l.block l.maps - l.i))
    ≡ largest_entry l.block l.maps l.table l.state)
