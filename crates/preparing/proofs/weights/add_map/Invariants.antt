-- `preparing::weights::add_map` meets its contract.
-- The loop's invariant: the places passed have the map in front, the others are as they were.
use Prim.Native.Nat.{◌≤◌}
use Rattle.preparing.proofs.WeightLaws.{AddedTo}
use Rattle.preparing.proofs.weights.add_map.Given as goal

abbrev pub invariant-loop-k : goal.invariant-loop-k
invariant-loop-k l = (l.k ≤ 256) × AddedTo l.own l.begin l.k l.initial.singles l.singles
