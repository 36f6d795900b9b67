-- `compiling::placing_sides::make_side` meets its contract.
-- The loop's invariant: the first i positions are compiled.
use Rattle.blocks.specs.Sides.{left_terms, right_terms}
use Rattle.compiling.specs.PlacingSides.{Begun}
use Rattle.compiling.proofs.placing_sides.make_side.Given as goal

abbrev pub invariant-loop-i : goal.invariant-loop-i
invariant-loop-i l = Begun l.sides.n (left_terms l.sides) (right_terms l.sides) l.made l.i
