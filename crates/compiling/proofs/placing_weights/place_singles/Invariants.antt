-- `compiling::placing_weights::place_singles` meets its contract.
-- The loop's invariant: the weights from position i on are written, all are low and 0 behind the last position, and p
-- is the product of the bases from i on.
use mathlib.Core.Path.{◌≡◌}
use Prim.Native.Nat.{ℕ, ◌≤◌, ◌<◌, ◌-◌, ◌+◌, ◌*◌}
use lib.ListN.{get_or}
use Rattle.blocks.specs.Layout.{positions, label_count, abstract_count}
use Rattle.words.specs.Ranking.{place_value, weight_of}
use Rattle.compiling.proofs.placing_weights.place_singles.Given as goal

abbrev pub invariant-loop-i : goal.invariant-loop-i
invariant-loop-i l =
    (l.i ≤ positions l.block) × (l.p ≡ place_value (abstract_count l.block) l.i (positions l.block - l.i))
    × ((j x : ℕ) → l.i ≤ j → j < positions l.block → x < label_count l.block j
    → get_or l.singles (16 * j + x) 0 ≡ weight_of l.block j x)
    × ((k : ℕ) → 16 * positions l.block ≤ k → get_or l.singles k 0 ≡ 0) × ((k : ℕ) → get_or l.singles k 0 ≤ 16384)
