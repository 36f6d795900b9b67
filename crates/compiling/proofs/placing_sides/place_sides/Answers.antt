-- `compiling::placing_sides::place_sides` meets its contract.
-- Each side has a place of its own.
use Rattle.compiling.proofs.RulesPlaced.{placed-as, sides-placed}
use Rattle.compiling.proofs.placing_sides.place_sides.Goals as goal

pub returns : goal.returns
returns c =
    let (n, left, right) = c.left_twice.ensures in
    sides-placed c.args.r (placed-as n left right c.place_side.ensures) c.place_side-2.ensures
