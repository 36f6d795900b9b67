-- The search, as a public call: `find_plan` is the answer with the final contents of the plan buffer, for every input,
-- and `PlanKept` what the call promises, demand 3 and which goal is told. `search_of` gives the document's answer for
-- what the call returns, `reported` for an answer of the rounds.
use Rattle.std.specs.Prelude.{ℕ, zero, suc, List, [], ◌∷◌, ◌++◌, leb, length, take, Result, Ok, Err}
use Rattle.basics.specs.Lists.{at_front}
use Rattle.refusals.specs.Answers.{Answer, refused, told, Condition, ◌unless◌, verdict, Outcome, outcome, guarded}
use Rattle.refusals.specs.Refusals.{refusal_number}
use Rattle.refusals.specs.declared.Refusal.{Refusal}
use Rattle.maps.specs.Maps.{all_entries, exercise_conditions}
use Rattle.map_tables.specs.MapTables.{all_pass}
use Rattle.rounds.specs.Rounds as rounds
use Rattle.queries.specs.Queries.{query_conditions}
use Rattle.search.specs.Exercises.{estimate_of, search_from, status_of, plan_goal}
use Rattle.search.specs.Parts.{planless}
use Rattle.search.specs.Promises.{SearchKept, GoalKept}
use Rattle.queries.specs.declared.Limits.{Limits}
use Rattle.search.specs.declared.running.Plan.{Plan}
use Rattle.search.specs.declared.running.Ending.{Ending}
use Rattle.search.specs.declared.running.Ending.TheVariants.{Found, NoPlan, Spent}

-- an answer of the search: its status, 0 for found, 1 for 'no plan' and 2 for 'spent', and steps, cost, visits and goal
pub record SearchAnswer : Type 0 where
  pub status : ℕ
  pub plan : Plan

abbrev pub search_answer : ℕ → ℕ → ℕ → ℕ → ℕ → SearchAnswer
search_answer status steps cost visits goal =
    record { status = status; plan = record { steps = steps; cost = cost; visits = visits; goal = goal } }

-- steps and cost are 0 without a plan, and the goal is FF
abbrev pub search_of : Result Ending Refusal → Answer SearchAnswer
search_of (Ok (Found plan)) = told (record { status = 0; plan = plan })
search_of (Ok (NoPlan visits)) = told (record { status = 1; plan = planless visits })
search_of (Ok (Spent visits)) = told (record { status = 2; plan = planless visits })
search_of (Err refusal) = refused (refusal_number refusal)

-- the same of an answer of the rounds, with the goal of its plan
abbrev pub reported : ℕ → rounds.Answer → SearchAnswer
reported goal a = search_answer (status_of a) (rounds.steps a) (rounds.plan_cost a) (rounds.visits a) goal

-- 12 and 13, of the tables of all maps
unfoldable pub tables_conditions : List ℕ → List ℕ → List ℕ → List Condition
tables_conditions b maps t = 12 unless leb (all_entries b maps) (length t) ∷ 13 unless all_pass b maps t ∷ []

-- 11, of a plan buffer of the length `room` for a plan of D steps, then 12 and 13
unfoldable pub lent_conditions : List ℕ → List ℕ → ℕ → List ℕ → ℕ → List Condition
lent_conditions b maps D t room = 11 unless leb D room ∷ tables_conditions b maps t

-- 3 to 7, 14 and 15, then 8 and 10, then 11 to 13
unfoldable pub search_conditions : List ℕ → List ℕ → List ℕ → Limits → List ℕ → ℕ → List Condition
search_conditions b maps s l t room =
    exercise_conditions b maps ++ (query_conditions b s l ++ lent_conditions b maps l.steps t room)

-- a plan stands at the front of the buffer, and nothing is written without one
unfoldable pub find_plan : List ℕ → List ℕ → List ℕ → Limits → List ℕ → List ℕ → Outcome SearchAnswer
find_plan b maps s l t buffer =
    let a = search_from b (estimate_of b maps t) s l in
    guarded (verdict (search_conditions b maps s l t (length buffer))) buffer
    (outcome (told (reported (plan_goal b s a) a)) (at_front (rounds.plan a) buffer))

-- the answer of the rounds that an answer tells, with its plan read from the front of the buffer
abbrev pub told_by_status : ℕ → Plan → List ℕ → rounds.Answer
told_by_status zero plan buffer = rounds.found plan.visits (take plan.steps buffer) plan.cost
told_by_status (suc zero) plan buffer = rounds.no_plan plan.visits
told_by_status (suc (suc k)) plan buffer = rounds.spent plan.visits

-- demand 3, and the goal told is the lowest that the plan's last state meets
abbrev pub PlanKept : List ℕ → List ℕ → List ℕ → Limits → List ℕ → Answer SearchAnswer → List ℕ → Type 0
PlanKept b maps s l t (told a) buffer =
    let x = told_by_status a.status a.plan buffer in
    SearchKept b (estimate_of b maps t) s l x × GoalKept b s x a.plan.goal
PlanKept b maps s l t (refused number) buffer = Unit {0}
