-- `psvn::rules::goal_met` meets its contract.
-- The side lies in the block, and the state has n labels.
use Rattle.std.proofs.Common.{refl, ◌∙◌}
use Rattle.psvn.specs.Rules.{goal_met}
use Rattle.psvn.proofs.rules.goal_met.Goals as goal

pub side_matches-requires : goal.side_matches-requires
side_matches-requires c = rw (c.bytes.ensures.same, c.requires.1) c.goal_at.ensures.inside

pub returns : goal.returns
unfolding goal_met
returns c = c.side_matches.ensures ∙ rw (c.bytes.ensures.same, c.goal_at.ensures.place, c.requires.1) refl
