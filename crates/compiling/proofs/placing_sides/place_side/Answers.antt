-- `compiling::placing_sides::place_side` meets its contract.
-- The six elements of place x are those of the side made.
use native.Mathlib.Omega.{arith}
use Rattle.compiling.proofs.SidePlaced.{side-placed}
use Rattle.compiling.proofs.placing_sides.place_side.Goals as goal

pub returns : goal.returns
returns c =
    let a = c.args in
    side-placed a.code.now a.x c.make_side-made.result (omega arith) a.sides.now.n _ _ (omega arith)
    c.make_side-made.ensures
