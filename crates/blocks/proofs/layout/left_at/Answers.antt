-- `blocks::layout::left_at` meets its contract.
-- The left side begins behind the cost.
use native.Mathlib.Omega.{arith}
use Rattle.blocks.proofs.Offsets.{left_is}
use Rattle.blocks.proofs.layout.left_at.Goals as goal

pub returns : goal.returns
returns c =
    let a = c.args in
    omega (arith, left_is a.block.now a.r)
