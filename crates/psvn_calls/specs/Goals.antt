-- The goal test, as a public call: `test_goals` is the answer, for every input, and `GoalTestKept` what the call
-- promises.
use Rattle.std.specs.Prelude.{ℕ, List, Option, None, Some}
use Rattle.refusals.specs.Answers.{Answer, refused, told, verdict, answered}
use Rattle.psvn.specs.Rules.{met_goal}
use Rattle.psvn.specs.Meaning.{LowestMet, NoneMet}
use Rattle.psvn_calls.specs.Checking.{state_conditions}

-- the goal that is met, or none
unfoldable pub test_goals : List ℕ → List ℕ → Answer (Option ℕ)
test_goals b s = answered (verdict (state_conditions b s)) (met_goal b s)

-- "the lowest number of a met goal", or none where the state meets none
abbrev pub GoalTestKept : List ℕ → List ℕ → Answer (Option ℕ) → Type 0
GoalTestKept b s (told (Some goal)) = LowestMet b s goal
GoalTestKept b s (told None) = NoneMet b s
GoalTestKept b s (refused number) = Unit {0}
