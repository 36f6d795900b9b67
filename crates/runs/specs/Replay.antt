-- Replaying a recorded run, at most 4,096 rule numbers from a start: 'done', with the goal of the final state, or
-- 'stuck' at the first index whose rule does not apply (`replay_ending`), with the cost so far, and the state there
-- (`replay_state`). What the two mean is `DoneAt` and `StuckAt`. The public call is stated with these.
use Rattle.std.specs.Prelude.{◌≡◌, ℕ, ◌<◌, Bool, true, false, cond, not, List, ltb, length, get_or, take}
use Rattle.basics.specs.Bounded.{all, first}
use Rattle.blocks.specs.Layout.{rules}
use Rattle.psvn.specs.Rules.{applies, met_goal, no_goal, goal_byte}
use Rattle.psvn.specs.Meaning.{GoalMeans}
use Rattle.psvn.specs.Runs.{apply_in_turn, run, total_cost}
use Rattle.runs.specs.declared.replay.RunEnd.{RunEnd}
use Rattle.runs.specs.declared.replay.Replayed.{Replayed}
use Rattle.runs.specs.declared.replay.Replayed.TheVariants.{Done, Stuck}

-- every number of the list is that of a rule; and how many there may be
unfoldable pub numbers_ok : List ℕ → List ℕ → Bool
numbers_ok b rs = all (length rs) (λ i. ltb (get_or rs i 0) (rules b))

abbrev pub longest_list : ℕ
longest_list = 4096

-- the first index whose rule does not apply where the rules before it have led; or the length of the list
unfoldable pub applied_count : List ℕ → List ℕ → List ℕ → ℕ
applied_count b s rs = first (length rs) (λ i. not (applies b (get_or rs i 0) (run b s (take i rs))))

-- the rules before it
abbrev pub applied : List ℕ → List ℕ → List ℕ → List ℕ
applied b s rs = take (applied_count b s rs) rs

-- the state there
unfoldable pub replay_state : List ℕ → List ℕ → List ℕ → List ℕ
replay_state b s rs = run b s (applied b s rs)

-- where the replay ends: how many rules were applied and their cost, with the goal that is told
unfoldable pub replay_end : List ℕ → List ℕ → List ℕ → ℕ → RunEnd
replay_end b s rs goal = record { steps = applied_count b s rs; cost = total_cost b (applied b s rs); goal = goal }

-- how the replay ends: 'stuck' where a rule is left, with FF for a goal; else 'done', with "the final state's goal, or
-- hexadecimal FF for none" (document 02, F-1)
unfoldable pub replay_ending : List ℕ → List ℕ → List ℕ → Replayed
replay_ending b s rs =
    cond (ltb (applied_count b s rs) (length rs))
    (Stuck (replay_end b s rs no_goal))
    (Done (replay_end b s rs (goal_byte (met_goal b (replay_state b s rs)))))

-- done in the state u: the rules apply in turn, and these are their number, their cost, the last state and its goal
pub record DoneAt (b s rs : List ℕ) (end : RunEnd) (u : List ℕ) : Type 0 where
  pub in_turn : apply_in_turn b s rs ≡ true
  pub steps : end.steps ≡ length rs
  pub cost : end.cost ≡ total_cost b rs
  pub state : u ≡ run b s rs
  pub goal : GoalMeans b u end.goal

-- stuck in the state u: the rules before the index apply in turn, these are their cost and the state that they lead
-- to, and the rule at the index does not apply to it; no goal is told
pub record StuckAt (b s rs : List ℕ) (end : RunEnd) (u : List ℕ) : Type 0 where
  pub within : end.steps < length rs
  pub in_turn : apply_in_turn b s (take end.steps rs) ≡ true
  pub cost : end.cost ≡ total_cost b (take end.steps rs)
  pub state : u ≡ run b s (take end.steps rs)
  pub does_not_apply : applies b (get_or rs end.steps 0) u ≡ false
  pub goal : end.goal ≡ no_goal
