-- `runs::replay::replay_in` meets its contract.
use Rattle.std.proofs.Common.{◌≡◌, sym, ap, ap₂, ◌∙◌, List, [], ◌∷◌, ◌++◌, ℕ, ◌+◌, ◌<◌, true, false}
use Rattle.std.specs.Option.{unwrap_or}
use Rattle.std.proofs.Common.{Option, Some, None, refl, length, get_or, take, add-one, arith}
use lib.Seq.{take-suc, take_all}
use borrow.Author.Rules.{rules as std_rules}
use Rattle.basics.proofs.Truth.{and_intro}
use Rattle.blocks.specs.Layout.{cost_of}
use Rattle.psvn.specs.Rules.{applies, step, met_goal, no_goal, goal_byte}
use Rattle.psvn.specs.Runs.{apply_in_turn, run, total_cost}
use Rattle.psvn.proofs.RunLaws.{run_more, cost-more, in-turn-more}
use Rattle.runs.specs.declared.replay.Replayed.TheVariants.{Done, Stuck}
use Rattle.runs.specs.declared.replay.RunEnd.{RunEnd}
use Rattle.runs.specs.Replay.{replay_ending, replay_state}
use Rattle.runs.proofs.ReplayLaws.{end_after, replay_done, replay_stuck}
use Rattle.runs.proofs.replay.replay_in.Goals as goal

-- one rule more
module _ (b s list : List ℕ) (i : ℕ) (l : i < length list) where
  taken : take (i + 1) list ≡ take i list ++ (get_or list i 0 ∷ [])
  taken = ap (λ (k : ℕ). take k list) (add-one i) ∙ take-suc list i 0 l

  next-state : step b (get_or list i 0) (run b s (take i list)) ≡ run b s (take (i + 1) list)
  next-state = sym (ap (run b s) taken ∙ run_more b s (take i list) (get_or list i 0))

  next-cost : total_cost b (take i list) + cost_of b (get_or list i 0) ≡ total_cost b (take (i + 1) list)
  next-cost = sym (ap (total_cost b) taken ∙ cost-more b (take i list) (get_or list i 0))

  next-in-turn :
      apply_in_turn b s (take i list) ≡ true → applies b (get_or list i 0) (run b s (take i list)) ≡ true
      → apply_in_turn b s (take (i + 1) list) ≡ true
  next-in-turn p q = ap (apply_in_turn b s) taken ∙ in-turn-more b s (take i list) (get_or list i 0) ∙ and_intro _ _ p q

-- where a replay ends that stops at an index
module _ (b s list : List ℕ) (i cost : ℕ) (u : List ℕ) (e : cost ≡ total_cost b (take i list))
    (there : u ≡ run b s (take i list)) (in_turn : apply_in_turn b s (take i list) ≡ true) where
  ends-here : (goal : ℕ) → ◌≡◌ {A = RunEnd} (record { steps = i; cost = cost; goal = goal }) (end_after b list i goal)
  ends-here goal = ap (λ (x : ℕ). record { steps = i; cost = x; goal = goal }) e

  stuck-here :
      i < length list → applies b (get_or list i 0) u ≡ false
      → (Stuck (record { steps = i; cost = cost; goal = no_goal }) ≡ replay_ending b s list)
      × (u ≡ replay_state b s list)
  stuck-here l f =
      let q = replay_stuck b s list i l in_turn (rw there at f) in
      (ap Stuck (ends-here no_goal) ∙ sym (q.0), there ∙ sym (q.1))

  done-here :
      (goal : ℕ) → i ≡ length list → goal ≡ goal_byte (met_goal b u)
      → (Done (record { steps = length list; cost = cost; goal = goal }) ≡ replay_ending b s list)
      × (u ≡ replay_state b s list)
  done-here goal last g =
      let all : take i list ≡ list = take_all i list (omega arith) in
      let end = there ∙ ap (run b s) all in
      let told = g ∙ ap (λ (u : List ℕ). goal_byte (met_goal b u)) end in
      let q = replay_done b s list (ap (apply_in_turn b s) (sym all) ∙ in_turn) in (
        ap (λ (k : ℕ). Done (record { steps = k; cost = cost; goal = goal })) (sym last)
            ∙ ap Done (ends-here goal ∙ ap₂ (end_after b list) last told) ∙ sym (q.0),
        end ∙ sym (q.1),
      )

-- a goal as one byte
byte : (goal : Option ℕ) → unwrap_or goal no_goal ≡ goal_byte goal
byte (Some g) = refl
byte None = refl

pub returns-then-not-applies : goal.returns-then-not-applies
returns-then-not-applies c =
    let a = c.args in
    let inv = c.loop-i.invariant in
    let q =
    stuck-here a.block.now a.state.now a.list.now c.loop-i.i c.loop-i.cost c.loop-i.state inv.1 inv.2 inv.3
    (omega arith) (rw (c.bytes.ensures.same, c.from-rule.ensures) at (sym c.if-not-applies.ensures)) in
    record { value = q.0; state_after = q.1 }

pub loop-i-preserved : goal.loop-i-preserved
loop-i-preserved c =
    let a = c.args in
    let b = a.block.now in
    let s = a.state.now in
    let list = a.list.now in
    let i = c.loop-i.i in
    let inv = c.loop-i.invariant in
    let rule = c.from-rule.ensures in
    let l : i < length list = omega arith in (
      search std_rules,
      ap₂ ◌+◌ inv.1 (c.from-cost.ensures ∙ c.cost.ensures ∙ ap (cost_of b) rule) ∙ next-cost b s list i l,
      c.advance.ensures ∙ ap₂ (step b) rule inv.2 ∙ next-state b s list i l,
      next-in-turn b s list i l inv.3 (rw (c.bytes.ensures.same, rule, inv.2) at (sym c.if-not-applies.ensures)),
    )

pub returns : goal.returns
returns c =
    let a = c.args in
    let inv = c.loop-i.invariant in
    let q =
    done-here a.block.now a.state.now a.list.now c.loop-i.i c.loop-i.cost c.loop-i.state inv.1 inv.2 inv.3
    c.unwrap_or-goal.result (omega arith)
    (c.unwrap_or-goal.ensures ∙ byte (c.met_goal.result)
    ∙ ap goal_byte (c.met_goal.ensures ∙ ap (λ (x : List ℕ). met_goal x c.loop-i.state) c.bytes-2.ensures.same)) in
    record { value = q.0; state_after = q.1 }
