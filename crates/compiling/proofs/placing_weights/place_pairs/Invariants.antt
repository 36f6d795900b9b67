-- `compiling::placing_weights::place_pairs` meets its contract.
-- The loop's invariant: the weights of the bytes passed are written.
use mathlib.Core.Path.{◌≡◌}
use Prim.Native.Nat.{ℕ, ◌≤◌, ◌<◌, ◌+◌, ◌*◌, ◌/◌}
use lib.ListN.{get_or}
use Rattle.compiling.specs.PlacingWeights.{pair_weight}
use Rattle.compiling.proofs.placing_weights.place_pairs.Given as goal

abbrev pub invariant-loop-k : goal.invariant-loop-k
invariant-loop-k l =
    (l.k ≤ 256 * ((l.n + 1) / 2)) × (l.n ≤ 16)
    × ((j : ℕ) → j < l.k → get_or l.weights j 0 ≡ pair_weight l.singles j)
