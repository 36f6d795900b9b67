-- `search::running::round` meets its contract.
-- The visit of the empty list, with no overshoot yet, is the round.
use Rattle.search.proofs.Runs.{round-here, round-done}
use Rattle.search.proofs.running.round.Goals as goal

pub visit-requires : goal.visit-requires
visit-requires c = round-here c.requires.0 _ c.requires.1

pub returns : goal.returns
returns c = round-done c.requires.0 _ _ _ _ c.visit.ensures
