-- What the answer to a query means: `AnswerMeans`, demand 3 for what its bytes ask, the goal told with it, and that its
-- numbers stand whole in their four bytes (`FourBytes`).
-- What `par` prints for a query line, and each record of a batch, promise this.
use Rattle.std.specs.Prelude.{◌≡◌, List, ℕ}
use Rattle.rounds.specs.Systems.{Estimate}
use Rattle.rounds.specs.Rounds as rounds
use Rattle.search.specs.Promises.{SearchKept, GoalKept}
use Rattle.records.specs.Records.{number_of, bytes_of, start_of, limits_of, goal_asked}

-- four bytes are enough for a number
abbrev pub FourBytes : ℕ → Type 0
FourBytes x = number_of (bytes_of x) ≡ x

-- what the answer a means for the query q of the exercise b, by the estimate h
pub record AnswerMeans (b : List ℕ) (h : List ℕ → Estimate) (q : List ℕ) (a : rounds.Answer) : Type 0 where
  -- demand 3 for the query's own start and limits
  pub kept : SearchKept b h (start_of b q) (limits_of b q) a
  -- the goal told is the lowest that the plan's last state meets
  pub goal : GoalKept b (start_of b q) a (goal_asked b q a)
  pub cost_whole : FourBytes (rounds.plan_cost a)
  pub visits_whole : FourBytes (rounds.visits a)
