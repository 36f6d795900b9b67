-- `blocks::sides::Sides::goal` meets its contract.
-- A goal lies in the block.
use Rattle.std.proofs.Common.{arith}
use Rattle.blocks.proofs.Offsets.{goal-inside}
use Rattle.blocks.proofs.sides.Sides.goal.Goals as goal

pub invariant_of-result : goal.invariant_of-result
invariant_of-result c =
    let b = c.args.block.now in
    let h = c.requires in
    omega (arith, goal-inside b h.0 c.args.g h.1, c.goal_at-at.ensures, h.0.headed.sizes.n_high)
