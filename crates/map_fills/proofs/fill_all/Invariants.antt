-- `map_fills::fill_all` meets its contract.
-- The loop's invariant: the filled tables of the maps passed stand at the front.
use Rattle.std.proofs.Common.{◌≡◌, suc}
use Rattle.basics.specs.Lists.{joined, at_front}
use Rattle.maps.specs.Maps.{entries_before}
use Rattle.map_fills.proofs.AllFilled.{filled_at}
use Rattle.map_fills.proofs.fill_all.Given as goal

abbrev pub invariant-loop-i : goal.invariant-loop-i
invariant-loop-i l =
    (l.at ≡ entries_before l.block l.maps (suc l.i))
    × (l.table ≡ at_front (joined (suc l.i) (filled_at l.block l.maps)) l.initial.table)
