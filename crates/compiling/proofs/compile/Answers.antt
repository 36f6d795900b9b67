-- `compiling::compile` meets its contract.
-- The places of goals and counts are not the rules'.
use Rattle.compiling.proofs.RulesPlaced.{compiled}
use Rattle.compiling.proofs.compile.Goals as goal

pub returns : goal.returns
returns c =
    compiled c.requires c.place_rules.ensures
    c.place_goals.ensures c.place_counts.ensures
