-- `blocks::layout::right_at` meets its contract.
-- The right side begins behind the left one.
use native.Mathlib.Omega.{arith}
use Rattle.blocks.proofs.Offsets.{right_is}
use Rattle.blocks.proofs.layout.right_at.Goals as goal

pub returns : goal.returns
returns c =
    let a = c.args in
    omega (arith, right_is a.block.now a.r)
