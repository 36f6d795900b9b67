-- `compiling::placing_sides::place_goals` meets its contract.
-- The loop's invariant: the goals passed are placed, and nothing but places of goals is written.
use mathlib.Core.Path.{◌≡◌}
use Prim.Native.Nat.{ℕ, ◌<◌, ◌*◌}
use Rattle.basics.specs.Parts.{Outside}
use Rattle.blocks.specs.Layout.{positions, goals, goal_of}
use Rattle.words.specs.Sides.{goal_place}
use Rattle.words.specs.Compiled.{Tested}
use Rattle.compiling.proofs.placing_sides.place_goals.Given as goal

abbrev pub invariant-loop-g : goal.invariant-loop-g
invariant-loop-g l =
    (l.count ≡ goals l.block)
    × Outside (6 * goal_place 0) (6 * goal_place 8) l.initial.code l.code
    × ((k : ℕ) → k < l.g → Tested (positions l.block) (goal_of l.block k) l.code (goal_place k))
