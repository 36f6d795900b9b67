-- `compiling::placing_sides::place_rules` meets its contract.
-- The loop's invariant: the rules passed are placed.
use mathlib.Core.Path.{◌≡◌}
use Prim.Native.Nat.{ℕ, ◌≤◌, ◌<◌}
use Rattle.blocks.specs.Layout.{rules}
use Rattle.words.specs.Compiled.{RuleAt}
use Rattle.compiling.proofs.placing_sides.place_rules.Given as goal

abbrev pub invariant-loop-r : goal.invariant-loop-r
invariant-loop-r l =
    (l.count ≡ rules l.block) × (l.r ≤ l.count)
    × ((k : ℕ) → k < l.r → RuleAt l.block l.code k)
