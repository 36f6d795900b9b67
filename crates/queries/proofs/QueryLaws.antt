-- What an accepting verdict on a query says (`query-accepted`): the start is a state, and the step limit is at most 64.
-- The search call, and the answer to a record, rest on this.
use mathlib.Core.Path.{◌≡◌}
use mathlib.Core.Bool.{true}
use mathlib.Core.List.{List, [], ◌∷◌}
use Prim.Native.Nat.{ℕ, ◌≤◌}
use lib.Dec.{leb}
use borrow.Author.Tests.{leb-true}
use Rattle.refusals.specs.Answers.{told, verdict, ◌unless◌}
use Rattle.refusals.proofs.Verdicts.{verdict-told}
use Rattle.blocks.specs.States.{state_ok}
use Rattle.queries.specs.Queries.{longest_plan, query_conditions}
use Rattle.queries.specs.declared.Limits.{Limits}

module _ (b s : List ℕ) (l : Limits) where
  pub record QueryAccepted : Type 0 where
    pub state : state_ok b s ≡ true
    pub steps_few : l.steps ≤ longest_plan

  pub query-accepted : verdict (query_conditions b s l) ≡ told tt → QueryAccepted
  unfolding query_conditions
  query-accepted h =
      let p₈ = verdict-told 8 (state_ok b s) (10 unless leb l.steps longest_plan ∷ []) h in
      let p₁₀ = verdict-told 10 (leb l.steps longest_plan) [] p₈.1 in
      record { state = p₈.0; steps_few = leb-true l.steps longest_plan p₁₀.0 }
