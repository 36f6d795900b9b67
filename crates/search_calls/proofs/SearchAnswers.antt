-- What the search call gives where nothing turns it back, from what the search layer answers: the answer and the buffer
-- (`answered-by`), and demand 3 with the goal that is told (`kept_by`).
-- The proof of the search call rests on these.
use mathlib.Core.Path.{◌≡◌, sym, ap, ap₂, ◌∙◌, subst}
use mathlib.Core.List.{List}
use Rattle.std.proofs.Common.{Ok}
use Prim.Native.Nat.{ℕ, ◌≤◌}
use native.Mathlib.Omega.{arith}
use lib.ListN.{length}
use lib.Seq.{length-take-le}
use Rattle.basics.specs.Lists.{at_front}
use Rattle.basics.proofs.Lists.{front-longer}
use Rattle.refusals.specs.Answers.{told, Outcome, outcome}
use Rattle.blocks.specs.Validity.{Valid}
use Rattle.rounds.specs.Rounds as rounds
use Rattle.search.specs.Exercises.{estimate_of, search_from, plan_goal}
use Rattle.search.specs.Promises.{SearchKept, GoalKept}
use Rattle.search.specs.Parts.{FoundWithin, Answers, answer_of, ending_goal}
use Rattle.search.proofs.Demand.{goal-kept}
use Rattle.queries.specs.declared.Limits.{Limits}
use Rattle.search.specs.declared.running.Ending.{Ending}
use Rattle.search.specs.declared.running.Ending.TheVariants as ending
use Rattle.search_calls.specs.Searching.{SearchAnswer, search_answer, search_of, reported, PlanKept}

-- an answer with the buffer after it
abbrev answering : SearchAnswer → List ℕ → Outcome SearchAnswer
answering a out = outcome (told a) out

-- what an accepted search gives
abbrev pub given : List ℕ → List ℕ → List ℕ → Limits → List ℕ → List ℕ → Outcome SearchAnswer
given b maps s l t buffer =
    let a = search_from b (estimate_of b maps t) s l in
    answering (reported (plan_goal b s a) a) (at_front (rounds.plan a) buffer)

module _ (b maps s : List ℕ) (l : Limits) (t buffer buffer' : List ℕ) where
  -- the answer of the search, as the rounds have it, and an ending of the search layer
  abbrev whole : rounds.Answer
  whole = search_from b (estimate_of b maps t) s l

  abbrev Ended : Ending → Type 0
  Ended r = Answers b (estimate_of b maps t) s l buffer buffer' r

  pub answered-by :
      l.steps ≤ length buffer → (r : Ending) → FoundWithin l.steps r → Ended r
      → outcome (search_of (Ok r)) buffer' ≡ given b maps s l t buffer
  unfolding rounds.visits
  answered-by room (ending.Found p) within h =
      let longer = front-longer (rounds.plan whole) buffer in
      let n = length-take-le p.steps buffer' (omega (arith, within, room, longer, ap length h.written)) in
      ap₂ answering
      (ap (λ (k : ℕ). search_answer 0 k p.cost p.visits p.goal) (sym n) ∙ ap₂ reported h.goal h.told)
      h.written
  answered-by room (ending.NoPlan u) within h = ap₂ answering (ap₂ reported h.goal h.told) h.written
  answered-by room (ending.Spent u) within h = ap₂ answering (ap₂ reported h.goal h.told) h.written

  -- what is promised, of an answer and the goal told with it
  abbrev Promised : rounds.Answer → ℕ → Type 0
  Promised a goal = SearchKept b (estimate_of b maps t) s l a × GoalKept b s a goal

  module _ (v : Valid b) where
    promised-by : (r : Ending) → Ended r → Promised (answer_of buffer' r) (ending_goal r)
    promised-by r h =
        subst (Promised (answer_of buffer' r)) (sym h.goal)
        (subst (λ (a : rounds.Answer). Promised a (plan_goal b s whole)) (sym h.told) (h.kept, goal-kept h.kept v))

    pub kept_by : (r : Ending) → Ended r → PlanKept b maps s l t (search_of (Ok r)) buffer'
    kept_by (ending.Found p) h = promised-by (ending.Found p) h
    kept_by (ending.NoPlan u) h = promised-by (ending.NoPlan u) h
    kept_by (ending.Spent u) h = promised-by (ending.Spent u) h
