-- `maps::maps_ok` meets its contract.
-- The loop's invariant: the maps passed are right, and the entries of their tables, with the block's own, in the limit.
use Rattle.std.proofs.Common.{◌≡◌, ℕ, suc, ◌≤◌, ◌<◌, true}
use Rattle.maps.specs.Maps.{further_maps, further_ok, entries_before}
use Rattle.maps.proofs.maps_ok.Given as goal

abbrev pub invariant-loop-i : goal.invariant-loop-i
invariant-loop-i l =
    (l.count ≡ further_maps l.block l.maps)
    × (l.entries ≡ entries_before l.block l.maps (suc l.i))
    × (l.entries ≤ 16384)
    × ((k : ℕ) → k < l.i → further_ok l.block l.maps k ≡ true)
