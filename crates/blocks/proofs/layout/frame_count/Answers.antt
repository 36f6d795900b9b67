-- `blocks::layout::frame_count` meets its contract.
-- The sum is the definition's.
use native.Mathlib.Omega.{arith}
use Rattle.blocks.specs.Layout.{frame_count}
use Rattle.blocks.proofs.layout.frame_count.Goals as goal

pub returns : goal.returns
unfolding frame_count
returns c = omega arith
