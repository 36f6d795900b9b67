-- `words::changes::added` meets its contract.
-- The shift that a part begins with leads to the label of its position.
use Rattle.std.proofs.Common.{refl}
use Rattle.words.specs.Changes.{part_adds}
use Rattle.words.proofs.changes.added.Goals as goal

pub returns : goal.returns
unfolding part_adds
returns c = refl
