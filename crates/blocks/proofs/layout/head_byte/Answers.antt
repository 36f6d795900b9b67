-- `blocks::layout::head_byte` meets its contract.
-- A byte of the head is there, and is what the definition reads.
use borrow.Author.Rules.{rules}
use Rattle.blocks.specs.Layout.{head_byte}
use Rattle.blocks.proofs.layout.head_byte.Goals as goal

pub returns : goal.returns
unfolding head_byte
returns c = search rules
