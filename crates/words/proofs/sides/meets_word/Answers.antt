-- `words::sides::meets_word` meets its contract.
-- A goal is met where one is found.
use Rattle.std.proofs.Common.{ap, ◌∙◌}
use Rattle.std.specs.Prelude.{is_some}
use Rattle.basics.proofs.Bounded.{find-is_some}
use Rattle.words.specs.Sides.{goal_place, matches_word, met_goal_word}
use Rattle.words.proofs.sides.meets_word.Goals as goal

pub returns : goal.returns
unfolding met_goal_word
returns c =
    let a = c.args in
    c.is_some.ensures ∙ ap is_some c.met_goal_word.ensures
    ∙ find-is_some (λ g. matches_word a.code.now (goal_place g) a.word) a.goals
