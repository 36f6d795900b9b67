-- `blocks::layout::rule_width` meets its contract.
-- The sum is the definition's, and at most 33 for 16 positions.
use native.Mathlib.Omega.{arith}
use Rattle.blocks.specs.Layout.{rule_width}
use Rattle.blocks.proofs.layout.rule_width.Goals as goal

pub returns : goal.returns
unfolding rule_width
returns c = omega arith
