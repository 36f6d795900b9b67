-- Replaying a recorded run, as a public call: `replay_run` is the answer with the final contents of the lent buffer,
-- for every input, and `ReplayKept` what the call promises. What is told is 'done' with the goal of the final state, or
-- 'stuck' at an index; either way with the cost so far.
use Rattle.std.specs.Prelude.{◌≡◌, ℕ, true, List, [], ◌∷◌, ◌++◌, leb, length, take}
use Rattle.basics.specs.Lists.{at_front}
use Rattle.refusals.specs.Answers.{Answer, refused, told, Condition, ◌unless◌, verdict, Outcome, outcome, guarded}
use Rattle.blocks.specs.Layout.{positions}
use Rattle.blocks.specs.States.{state_ok}
use Rattle.runs.specs.Replay.{numbers_ok, longest_list, replay_ending, replay_state, DoneAt, StuckAt}
use Rattle.runs.specs.declared.replay.Replayed.{Replayed}
use Rattle.runs.specs.declared.replay.Replayed.TheVariants.{Done, Stuck}
use Rattle.psvn_calls.specs.Checking.{state_conditions}

-- 3 to 8, then 9 for every number of the list, 10 and 11; `room` is the length of the buffer
unfoldable pub replay_conditions : List ℕ → List ℕ → List ℕ → ℕ → List Condition
replay_conditions b s rs room =
    state_conditions b s
    ++ (9 unless numbers_ok b rs ∷ 10 unless leb (length rs) longest_list ∷ 11 unless leb (positions b) room ∷ [])

-- the state there stands at the front of the buffer
unfoldable pub replay_run : List ℕ → List ℕ → List ℕ → List ℕ → Outcome Replayed
replay_run b s rs out =
    guarded (verdict (replay_conditions b s rs (length out))) out
    (outcome (told (replay_ending b s rs)) (at_front (replay_state b s rs) out))

-- done or stuck in the state at the front of the buffer, which is a state of the exercise
abbrev pub ReplayKept : List ℕ → List ℕ → List ℕ → Answer Replayed → List ℕ → Type 0
ReplayKept b s rs (told (Done end)) out =
    DoneAt b s rs end (take (positions b) out) × (state_ok b (take (positions b) out) ≡ true)
ReplayKept b s rs (told (Stuck end)) out =
    StuckAt b s rs end (take (positions b) out) × (state_ok b (take (positions b) out) ≡ true)
ReplayKept b s rs (refused number) out = Unit {0}
