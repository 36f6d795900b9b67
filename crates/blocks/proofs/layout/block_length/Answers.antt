-- `blocks::layout::block_length` meets its contract.
-- The block ends behind its last goal.
use mathlib.Core.Path.{ap}
use native.Mathlib.Omega.{arith}
use Rattle.blocks.specs.Layout.{goal_at}
use Rattle.blocks.proofs.Offsets.{end_is}
use Rattle.blocks.proofs.layout.block_length.Goals as goal

pub returns : goal.returns
returns c =
    let b = c.args.block.now in
    omega (arith, end_is b, ap (goal_at b) c.goals.ensures.0)
