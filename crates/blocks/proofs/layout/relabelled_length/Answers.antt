-- `blocks::layout::relabelled_length` meets its contract.
-- The relabelled block has K map bytes in the place of L.
use native.Mathlib.Omega.{arith}
use Rattle.blocks.proofs.Offsets.{relabelled-length-is, map-fits}
use Rattle.blocks.proofs.layout.relabelled_length.Goals as goal

pub overflow_sub-result : goal.overflow_sub-result
overflow_sub-result c =
    let b = c.args.block.now in
    omega (arith, map-fits b)

pub returns : goal.returns
returns c =
    let b = c.args.block.now in
    omega (arith, map-fits b, relabelled-length-is b)
