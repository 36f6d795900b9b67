-- What a replay tells. It is done exactly where the rules apply in turn, with their cost, the last state and its goal
-- (`replay_done`, `done-in-turn`); it is stuck at an index exactly where the rules before it apply in turn and its rule
-- does not apply then (`replay_stuck`, `stuck_at`); no rules change nothing (`replay-empty`, `replay-empty-state`); and
-- it ends in a valid state (`replay-state-ok`). The code's proof and readers of the public call rest on these.
use mathlib.Core.Path.{◌≡◌, refl, sym, ap, subst, ◌∙◌}
use mathlib.Core.Bool.{Bool, true, false, not, cond}
use mathlib.Core.List.{List, []}
use Prim.Native.Nat.{ℕ, ◌≤◌, ◌<◌}
use native.Mathlib.Omega.{arith}
use lib.Dec.{ltb}
use lib.ListN.{length, get_or, take}
use lib.Seq.{length-take-le, take_all, take-length, take-take, get_or-take}
use borrow.Author.Tests.{lt-ltb, le-ltb, ltb-true, ltb-false, not-true, not-false}
use Rattle.basics.proofs.Bounded.{all-at, first-at, first-passed, first-least, first_holds, first_some, first-within}
use Rattle.blocks.specs.Layout.{positions, rules}
use Rattle.blocks.specs.Validity.{Valid}
use Rattle.blocks.specs.States.{state_ok}
use Rattle.psvn.specs.Rules.{applies, met_goal, no_goal, goal_byte}
use Rattle.psvn.specs.Runs.{RuleNumbers, apply_in_turn, run, total_cost}
use Rattle.psvn.proofs.GoalLaws.{goal-means}
use Rattle.psvn.proofs.RunLaws.{in-turn-at, in-turn-intro, run_length_lem, run-state}
use Rattle.runs.specs.Replay.{numbers_ok, applied_count, applied}
use Rattle.runs.specs.Replay.{replay_end, replay_ending, replay_state, DoneAt, StuckAt}
use Rattle.runs.specs.declared.replay.RunEnd.{RunEnd}
use Rattle.runs.specs.declared.replay.Replayed.{Replayed}
use Rattle.runs.specs.declared.replay.Replayed.TheVariants.{Done, Stuck}

-- each number by itself
pub rule-numbers : (b rs : List ℕ) → numbers_ok b rs ≡ true → RuleNumbers b rs
unfolding numbers_ok
rule-numbers b rs h i l = ltb-true _ _ (all-at (λ i. ltb (get_or rs i 0) (rules b)) (length rs) h i l)

-- the rule at index i does not apply where those before it have led
abbrev fails : List ℕ → List ℕ → List ℕ → ℕ → Bool
fails b s rs i = not (applies b (get_or rs i 0) (run b s (take i rs)))

-- where a replay ends that applied n rules and tells this goal
abbrev pub end_after : List ℕ → List ℕ → ℕ → ℕ → RunEnd
end_after b rs n goal = record { steps = n; cost = total_cost b (take n rs); goal = goal }

module _ (b s rs : List ℕ) where
  -- the goal told after n rules, and how a replay ends there
  abbrev goal_after : ℕ → ℕ
  goal_after n = goal_byte (met_goal b (run b s (take n rs)))

  abbrev ending_at : ℕ → Replayed
  ending_at n = cond (ltb n (length rs)) (Stuck (end_after b rs n no_goal)) (Done (end_after b rs n (goal_after n)))

  -- the ending and the state, once the count is known
  ending_at_lem : (n : ℕ) → applied_count b s rs ≡ n → replay_ending b s rs ≡ ending_at n
  unfolding replay_ending replay_end replay_state
  ending_at_lem n e = ap ending_at e

  state-at : (n : ℕ) → applied_count b s rs ≡ n → replay_state b s rs ≡ run b s (take n rs)
  unfolding replay_state
  state-at n e = ap (λ (k : ℕ). run b s (take k rs)) e

  -- the rules before an index apply in turn exactly where none of them fails
  before_at : (n : ℕ) → apply_in_turn b s (take n rs) ≡ true → n ≤ length rs → (i : ℕ) → i < n → fails b s rs i ≡ false
  before_at n h m i l =
      let a = in-turn-at b s (take n rs) h i (omega (arith, length-take-le n rs m)) in
      ap not (rw (get_or-take n rs i 0 l, take-take i n rs (omega arith)) at a)

  before-intro : (n : ℕ) → n ≤ length rs → ((i : ℕ) → i < n → fails b s rs i ≡ false) → apply_in_turn b s (take n rs)
      ≡ true
  before-intro n m h =
      in-turn-intro b s (take n rs) (λ i l.
      let k : i < n = omega (arith, length-take-le n rs m) in
      rw (get_or-take n rs i 0 k, take-take i n rs (omega arith)) (not-false _ (h i k)))

  -- from the rules to the ending
  pub replay_done :
      apply_in_turn b s rs ≡ true
      → (replay_ending b s rs ≡ Done (end_after b rs (length rs) (goal_byte (met_goal b (run b s rs)))))
      × (replay_state b s rs ≡ run b s rs)
  unfolding applied_count
  replay_done h =
      let n = length rs in
      let e = first-passed (fails b s rs) n n (omega arith) (before_at n (rw take-length h) (omega arith)) in (
        ending_at_lem n e ∙ rw (le-ltb n n (omega arith), take-length),
        state-at n e ∙ rw take-length,
      )

  pub replay_stuck :
      (i : ℕ) → i < length rs → apply_in_turn b s (take i rs) ≡ true
      → applies b (get_or rs i 0) (run b s (take i rs)) ≡ false
      → (replay_ending b s rs ≡ Stuck (end_after b rs i no_goal)) × (replay_state b s rs ≡ run b s (take i rs))
  unfolding applied_count
  replay_stuck i l h f =
      let e = first-at (fails b s rs) (length rs) i l (ap not f) (before_at i h (omega arith)) in
      (ending_at_lem i e ∙ rw (lt-ltb i (length rs) l), state-at i e)

  count-within : applied_count b s rs ≤ length rs
  unfolding applied_count
  count-within = first-within (fails b s rs) (length rs)

  -- and back: by the count, a rule is left or none
  stopped : ltb (applied_count b s rs) (length rs) ≡ true
      → StuckAt b s rs (replay_end b s rs no_goal) (replay_state b s rs)
  unfolding applied_count replay_end
  stopped e =
      let n = applied_count b s rs in
      let l : n < length rs = ltb-true _ _ e in
      let f = fails b s rs in
      record {
        within = l;
        in_turn = before-intro n (omega arith) (first-least f (length rs));
        does_not_apply =
            rw (state-at n refl) (not-true _ (first_holds f (length rs) (sym (first_some f (length rs)) ∙ e)).1);
        cost = refl;
        state = state-at n refl;
        goal = refl;
      }

  -- where it ends if it is done, with the goal of the state there; FF is no goal's number in an accepted block
  abbrev done_end : RunEnd
  done_end = replay_end b s rs (goal_byte (met_goal b (replay_state b s rs)))

  finished : Valid b → ltb (applied_count b s rs) (length rs) ≡ false → DoneAt b s rs done_end (replay_state b s rs)
  unfolding applied_count replay_end
  finished v e =
      let n = applied_count b s rs in
      let m : length rs ≤ n = ltb-false n (length rs) e in
      let all : take n rs ≡ rs = take_all n rs m in
      record {
        in_turn =
            in-turn-intro b s rs (λ i l.
            not-false _ (first-least (fails b s rs) (length rs) i (omega arith)));
        steps = omega (arith, count-within);
        cost = ap (total_cost b) all;
        state = state-at n refl ∙ ap (run b s) all;
        goal = goal-means b (replay_state b s rs) (omega (arith, v.sized.headed.sizes.g_high));
      }

  pub done-in-turn : Valid b → (d : RunEnd) → replay_ending b s rs ≡ Done d → DoneAt b s rs d (replay_state b s rs)
  unfolding replay_ending
  done-in-turn v d h = go (ltb (applied_count b s rs) (length rs)) refl
    where
      go : (t : Bool) → ltb (applied_count b s rs) (length rs) ≡ t → DoneAt b s rs d (replay_state b s rs)
      go true e = absurd (let z : ◌≡◌ {A = ℕ} 0 1 = cc (e, h) in omega arith)
      go false e =
          let q : done_end ≡ d = cc (e, h) in
          subst (λ (e : RunEnd). DoneAt b s rs e (replay_state b s rs)) q (finished v e)

  pub stuck_at : (d : RunEnd) → replay_ending b s rs ≡ Stuck d → StuckAt b s rs d (replay_state b s rs)
  unfolding replay_ending
  stuck_at d h = go (ltb (applied_count b s rs) (length rs)) refl
    where
      go : (t : Bool) → ltb (applied_count b s rs) (length rs) ≡ t → StuckAt b s rs d (replay_state b s rs)
      go true e = let q : replay_end b s rs no_goal
          ≡ d = cc (e, h) in subst (λ (e : RunEnd). StuckAt b s rs e (replay_state b s rs)) q (stopped e)
      go false e = absurd (let z : ◌≡◌ {A = ℕ} 0 1 = cc (e, h) in omega arith)

  -- the state there
  pub replay-length : length s ≡ positions b → length (replay_state b s rs) ≡ positions b
  unfolding replay_state
  replay-length e = run_length_lem b s (applied b s rs) e

  pub replay-state-ok : Valid b → state_ok b s ≡ true → RuleNumbers b rs → state_ok b (replay_state b s rs) ≡ true
  unfolding replay_state
  replay-state-ok v ok h =
      let n = applied_count b s rs in
      run-state b v s (applied b s rs) ok (λ i l.
      let m : i < n = omega (arith, length-take-le n rs count-within) in
      rw (get_or-take n rs i 0 m) (h i (omega (arith, count-within))))

-- no rules
pub replay-empty : (b s : List ℕ) → replay_ending b s []
    ≡ Done (record { steps = 0; cost = 0; goal = goal_byte (met_goal b s) })
unfolding replay_ending replay_end replay_state applied_count
replay-empty b s = refl

pub replay-empty-state : (b s : List ℕ) → replay_state b s [] ≡ s
unfolding replay_state applied_count
replay-empty-state b s = refl
