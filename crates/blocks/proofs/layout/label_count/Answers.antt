-- `blocks::layout::label_count` meets its contract.
-- Every position has the exercise's labels.
use borrow.Author.Rules.{rules}
use Rattle.blocks.specs.Layout.{label_count}
use Rattle.blocks.proofs.layout.label_count.Goals as goal

pub returns : goal.returns
unfolding label_count
returns c = search rules
