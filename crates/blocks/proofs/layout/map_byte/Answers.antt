-- `blocks::layout::map_byte` meets its contract.
-- The map lies in a block of the length that its head demands.
use native.Mathlib.Omega.{arith}
use borrow.Author.Rules.{rules}
use Rattle.blocks.specs.Layout.{map_byte}
use Rattle.blocks.proofs.Offsets.{map-inside}
use Rattle.blocks.proofs.layout.map_byte.Goals as goal

pub bounds-block-x : goal.bounds-block-x
bounds-block-x c =
    let a = c.args in
    omega (arith, map-inside a.block.now c.requires.0 a.x c.requires.1)

pub returns : goal.returns
unfolding map_byte
returns c = search rules
