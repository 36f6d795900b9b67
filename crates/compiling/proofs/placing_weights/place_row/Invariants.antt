-- `compiling::placing_weights::place_row` meets its contract.
-- The loop's invariant: the weights of the labels passed are
-- written, none of them high, and nothing but weights of position i.
use mathlib.Core.Path.{◌≡◌}
use Prim.Native.Nat.{ℕ, ◌≤◌, ◌<◌, ◌+◌, ◌*◌}
use lib.ListN.{get_or}
use Rattle.basics.specs.Parts.{Outside}
use Rattle.blocks.specs.Layout.{label_count, map_at}
use Rattle.compiling.proofs.placing_weights.place_row.Given as goal

abbrev pub invariant-loop-x : goal.invariant-loop-x
invariant-loop-x l =
    (l.count ≡ label_count l.block l.i) × (l.count ≤ 16)
    × Outside (16 * l.i) (16 * l.i + 16) l.initial.singles l.singles
    × ((k : ℕ) → k < l.x → get_or l.singles (16 * l.i + k) 0 ≡ map_at l.block l.i k * l.p)
    × (((k : ℕ) → get_or l.initial.singles k 0 ≤ 16384) → (k : ℕ) → get_or l.singles k 0 ≤ 16384)
