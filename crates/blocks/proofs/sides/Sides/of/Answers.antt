-- `blocks::sides::Sides::of` meets its contract.
-- Both sides of a rule lie in the block.
use Rattle.std.proofs.Common.{arith}
use Rattle.blocks.proofs.Offsets.{left-inside, right-inside}
use Rattle.blocks.proofs.sides.Sides.of.Goals as goal

pub invariant_of-result : goal.invariant_of-result
invariant_of-result c =
    let b = c.args.block.now in
    let h = c.requires in
    omega (arith, left-inside b h.0 c.args.r h.1, right-inside b h.0 c.args.r h.1, h.0.headed.sizes.n_high)
