-- `preparing::weights::packed_weights` meets its contract.
-- The loop's invariant: the maps behind the next one are packed, and `begin` is where their tables begin.
use mathlib.Core.Path.{◌≡◌}
use Prim.Native.Nat.{suc, ◌-◌, ◌≤◌}
use Rattle.maps.specs.Maps.{further_maps, entries_before}
use Rattle.preparing.specs.Weights.{WeightsPacked}
use Rattle.preparing.proofs.weights.packed_weights.Given as goal

abbrev pub invariant-loop-i : goal.invariant-loop-i
invariant-loop-i l =
    (l.i ≤ further_maps l.block l.maps) × (l.begin ≡ entries_before l.block l.maps (suc l.i))
    × WeightsPacked l.block l.maps (suc l.i) (further_maps l.block l.maps - l.i) l.singles
