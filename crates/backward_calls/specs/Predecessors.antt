-- Stepping back, as two public calls, from 'first' and after an earlier state: `step_back_from` is the answer with the
-- final contents of the lent buffer, for every input, and `PredecessorKept` what the calls promise. What is told is
-- whether a state was found; 'none further' is false.
use Rattle.std.specs.Prelude.{ℕ, Bool, true, false, List, [], ◌∷◌, ◌++◌, leb, ltb, length, take}
use Rattle.refusals.specs.Answers.{Answer, refused, told, Condition, ◌unless◌, verdict, Outcome, outcome, guarded}
use Rattle.blocks.specs.Layout.{positions, rules}
use Rattle.blocks.specs.States.{state_ok}
use Rattle.backward.specs.Predecessors.{Earlier, from_first, after, is_found, written_out, step_back}
use Rattle.backward.specs.Predecessors.{NextPredecessor, NoPredecessor}
use Rattle.psvn_calls.specs.Checking.{state_conditions}

-- 'first' is always right; an earlier state is any state
abbrev pub earlier_ok : List ℕ → Earlier → Bool
earlier_ok b from_first = true
earlier_ok b (after e) = state_ok b e

-- 3 to 8, 8 for the earlier state, then 9 and 11; `room` is the length of the buffer
unfoldable pub step_back_conditions : List ℕ → ℕ → List ℕ → Earlier → ℕ → List Condition
step_back_conditions b r s earlier room =
    state_conditions b s
    ++ (8 unless earlier_ok b earlier ∷ 9 unless ltb r (rules b) ∷ 11 unless leb (positions b) room ∷ [])

-- the state found stands at the front of the buffer, or nothing is written
unfoldable pub step_back_from : List ℕ → ℕ → List ℕ → Earlier → List ℕ → Outcome Bool
step_back_from b r s earlier out =
    guarded (verdict (step_back_conditions b r s earlier (length out))) out
    (outcome (told (is_found (step_back b r s earlier))) (written_out (step_back b r s earlier) out))

-- the next state in rank order that the rule takes to s stands at the front of the buffer, or there is none
abbrev pub PredecessorKept : List ℕ → ℕ → List ℕ → Earlier → Answer Bool → List ℕ → Type 0
PredecessorKept b r s earlier (told true) out = NextPredecessor b r s earlier (take (positions b) out)
PredecessorKept b r s earlier (told false) out = NoPredecessor b r s earlier
PredecessorKept b r s earlier (refused number) out = Unit {0}
