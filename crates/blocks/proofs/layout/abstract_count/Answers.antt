-- `blocks::layout::abstract_count` meets its contract.
-- Every position has the exercise's abstract labels.
use borrow.Author.Rules.{rules}
use Rattle.blocks.specs.Layout.{abstract_count}
use Rattle.blocks.proofs.layout.abstract_count.Goals as goal

pub returns : goal.returns
unfolding abstract_count
returns c = search rules
