-- Records: what a query's bytes ask (`start_of`, `limits_of`), the search that they ask for (`search_asked`) and what
-- turns it back (`record_conditions`), and the bytes that answer it (`answer_record`), by any estimate that passes.
-- A query line of `par` and the line that answers it are such records in digits; a call answers many of them at once.
use Rattle.std.specs.Prelude.{◌≡◌, ℕ, ◌+◌, List, [], ◌∷◌, ◌++◌, length, get_or, take, drop}
use Rattle.basics.specs.Lists.{at_front}
use Rattle.basics.specs.Digits.{value_to, digits}
use Rattle.refusals.specs.Answers.{Answer, refused, told, Condition, verdict, answered}
use Rattle.blocks.specs.Layout.{positions}
use Rattle.queries.specs.Queries.{query_conditions}
use Rattle.queries.specs.declared.Limits.{Limits}
use Rattle.rounds.specs.Systems.{Estimate}
use Rattle.rounds.specs.Rounds as rounds
use Rattle.search.specs.Exercises.{search_from, status_of, plan_goal}

-- four bytes, the highest first: the number that a list begins with, and the bytes of a number
abbrev pub number_of : List ℕ → ℕ
number_of q = value_to (λ i. 256) q 4

abbrev pub bytes_of : ℕ → List ℕ
bytes_of x = digits (λ i. 256) 4 x

-- a query's bytes: start, D (one byte), B, V (four bytes each)
abbrev pub query_length : List ℕ → ℕ
query_length b = positions b + 9

abbrev pub start_of : List ℕ → List ℕ → List ℕ
start_of b q = take (positions b) q

abbrev pub limits_of : List ℕ → List ℕ → Limits
limits_of b q =
    record {
      steps = get_or q (positions b) 0;
      cost = number_of (drop (positions b + 1) q);
      visits = number_of (drop (positions b + 5) q);
    }

-- "A query is checked for .. 8, 10"
abbrev pub record_conditions : List ℕ → List ℕ → List Condition
record_conditions b q = query_conditions b (start_of b q) (limits_of b q)

-- the search that a query asks for, by the estimate h
unfoldable pub search_asked : List ℕ → (List ℕ → Estimate) → List ℕ → rounds.Answer
search_asked b h q = search_from b h (start_of b q) (limits_of b q)

-- how many bytes hold every answer
abbrev pub record_room : ℕ
record_room = 75

-- "steps, cost (four bytes), visits (four)", and the plan behind them
abbrev pub plan_front : ℕ → ℕ → ℕ → List ℕ
plan_front steps cost visits = steps ∷ (bytes_of cost ++ bytes_of visits)

abbrev pub plan_bytes : ℕ → ℕ → List ℕ → List ℕ
plan_bytes cost visits plan = plan_front (length plan) cost visits ++ plan

-- a found line carries the goal "as one byte after the status" (document 02, F-1); the others do not print theirs
abbrev pub goal_bytes : ℕ → rounds.Answer → List ℕ
goal_bytes goal (rounds.found u p c) = goal ∷ []
goal_bytes goal (rounds.no_plan u) = []
goal_bytes goal (rounds.spent u) = []

-- "status (00 found, 01 no plan, 02 spent)", and behind it the goal that the plan reaches, and the plan
abbrev pub answer_bytes : ℕ → rounds.Answer → List ℕ
answer_bytes goal a =
    status_of a ∷ goal_bytes goal a ++ plan_bytes (rounds.plan_cost a) (rounds.visits a) (rounds.plan a)

-- "FF and the number"
abbrev pub refusal_bytes : ℕ → List ℕ
refusal_bytes number = 255 ∷ number ∷ []

-- the goal of an answer to the query q
abbrev pub goal_asked : List ℕ → List ℕ → rounds.Answer → ℕ
goal_asked b q a = plan_goal b (start_of b q) a

-- the bytes of an answer to the query q, or of a refusal
abbrev pub record_of : List ℕ → List ℕ → Answer rounds.Answer → List ℕ
record_of b q (refused number) = refusal_bytes number
record_of b q (told a) = answer_bytes (goal_asked b q a) a

-- the record that answers a query, by the estimate h
unfoldable pub answer_record : List ℕ → (List ℕ → Estimate) → List ℕ → List ℕ
answer_record b h q = record_of b q (answered (verdict (record_conditions b q)) (search_asked b h q))

-- bytes stand at the front of a buffer that held `old`, and n is their length
pub record Written (bytes old : List ℕ) (n : ℕ) (new : List ℕ) : Type 0 where
  pub told : n ≡ length bytes
  pub front : new ≡ at_front bytes old
