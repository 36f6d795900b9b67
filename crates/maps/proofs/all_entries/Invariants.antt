-- `maps::all_entries` meets its contract.
-- The loop's invariant: the entries of the tables passed, which are at most all entries.
use Rattle.std.proofs.Common.{◌≡◌, suc}
use Rattle.maps.specs.Maps.{further_maps, entries_before}
use Rattle.maps.proofs.all_entries.Given as goal

abbrev pub invariant-loop-i : goal.invariant-loop-i
invariant-loop-i l = (l.count ≡ further_maps l.block l.maps) × (l.sum ≡ entries_before l.block l.maps (suc l.i))
