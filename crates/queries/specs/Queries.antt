-- What turns a search back once its block is accepted: `query_conditions`, of a start and limits.
-- The search call, and a query of `par`, are refused by these.
use Rattle.std.specs.Prelude.{List, [], ◌∷◌, ℕ, leb}
use Rattle.refusals.specs.Answers.{Condition, ◌unless◌}
use Rattle.blocks.specs.States.{state_ok}
use Rattle.queries.specs.declared.Limits.{Limits}

-- the largest step limit
abbrev pub longest_plan : ℕ
longest_plan = 64

-- 8: the start is a state; 10: the step limit is at most 64
unfoldable pub query_conditions : List ℕ → List ℕ → Limits → List Condition
query_conditions b s l = 8 unless state_ok b s ∷ 10 unless leb l.steps longest_plan ∷ []
