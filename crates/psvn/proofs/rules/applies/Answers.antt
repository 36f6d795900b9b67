-- `psvn::rules::applies` meets its contract.
-- The side lies in the block, and the state has n labels.
use Rattle.std.proofs.Common.{refl, ◌∙◌}
use Rattle.psvn.specs.Rules.{applies}
use Rattle.psvn.proofs.rules.applies.Goals as goal

pub side_matches-requires : goal.side_matches-requires
side_matches-requires c =
    rw (c.bytes.ensures.same, c.new-block.ensures, c.requires.2) (rw c.new-block.ensures at c.left_at.ensures.inside)

pub returns : goal.returns
unfolding applies
returns c =
    c.side_matches.ensures
    ∙ rw (c.bytes.ensures.same, c.left_at.ensures.place, c.new-block.ensures, c.requires.2) refl
