-- What a table promises: one that passes the test gives an estimate that is a lower bound (`lower-bound`), by the
-- homomorphism, and so never above the cost of a list that reaches a goal (`never-too-high`, `estimate-bound`); the
-- table of zeros passes (`zeros-pass-test`). The search rests on the first alone.
use mathlib.Core.Path.{◌≡◌, sym, ap, ◌∙◌}
use mathlib.Core.Bool.{true, ◌&&◌}
use mathlib.Core.List.{List, [], ◌∷◌}
use mathlib.Core.Logic.{◌≢◌}
use Prim.Native.Nat.{ℕ, ◌+◌, ◌≤◌, ◌<◌}
use native.Mathlib.Omega.{arith}
use lib.Dec.{ltb}
use lib.ListN.{get_or}
use borrow.Author.Tests.{ltb-true}
use Rattle.basics.specs.Marks.{mark}
use Rattle.basics.proofs.Truth.{and-true}
use Rattle.blocks.specs.Layout.{rules, cost_of, abstract_states}
use Rattle.blocks.specs.Validity.{Valid}
use Rattle.blocks.specs.States.{state_ok}
use Rattle.psvn.specs.Rules.{applies, step, meets}
use Rattle.psvn.specs.Runs.{reaches}
use Rattle.psvn.specs.Relabelling.{relabel_block, relabel_state}
use Rattle.psvn.specs.Ranks.{rank}
use Rattle.psvn.proofs.Relabelled.{rules-relabelled, abstract-states-relabelled, cost-relabelled}
use Rattle.psvn.proofs.Homomorphism.{applies-relabelled, step-relabelled, meets-relabelled}
use Rattle.psvn.proofs.Stepping.{step-state, relabelled-state, abstract_states_lem}
use Rattle.distances.proofs.Passing.{passes-goal, passes-rule, zeros_pass}
use Rattle.tables.specs.Abstraction.{step_rank, graph_of, Relabelled}
use Rattle.tables.specs.Tables.{entry, estimate, passes_test, LowerBound, NeverTooHigh}
use Rattle.tables.proofs.OverRanks.{rank-relabelled, at-rank, rank-in, step-rank, relabelled-block}

module _ (b : List ℕ) (v : Valid b) where
  relabelled : Relabelled (relabel_block b)
  relabelled = relabelled-block b v

  -- the relabelled state of a valid state
  image : (s : List ℕ) → state_ok b s ≡ true → state_ok (relabel_block b) (relabel_state b s) ≡ true
  image s ok = abstract_states_lem b (relabel_state b s) ∙ relabelled-state b v s ok

  estimate-rank : (t s : List ℕ) → estimate b t s ≡ get_or t (rank (relabel_block b) (relabel_state b s)) 0
  unfolding estimate entry
  estimate-rank t s = ap (λ (k : ℕ). get_or t k 0) (sym (rank-relabelled b (relabel_state b s)))

  -- rule by rule, so for every list that reaches a goal
  pub never-too-high : (h : List ℕ → ℕ) → LowerBound b h → NeverTooHigh b h
  never-too-high h low s ok [] w = let z = low.goal s ok w in omega arith
  never-too-high h low s ok (r ∷ rs) w =
      let (number, rest) = and-true (ltb r (rules b)) (applies b r s && reaches b (step b r s) rs) w in
      let (here, further) = and-true (applies b r s) (reaches b (step b r s) rs) rest in
      let l = ltb-true r (rules b) number in
      let (m, c) = never-too-high h low (step b r s) (step-state b v r l s ok) rs further in
      let (m', c') = low.rule s r ok l here m in
      (m', omega arith)

  module _ (t : List ℕ) (p : passes_test b t ≡ true) where
    goal-zero : (s : List ℕ) → state_ok b s ≡ true → meets b s ≡ true → estimate b t s ≡ 0
    unfolding passes_test
    goal-zero s ok m =
        let a = relabel_block b in
        let u = relabel_state b s in
        estimate-rank t s
        ∙ passes-goal (graph_of a) t p (rank a u) (rank-in a relabelled u (image s ok))
        (ap (meets a) (at-rank a relabelled u (image s ok)) ∙ meets-relabelled b v s m)

    rule-bound :
        (s : List ℕ) (r : ℕ) → state_ok b s ≡ true → r < rules b → applies b r s ≡ true
        → estimate b t (step b r s) ≢ mark
        → (estimate b t s ≢ mark) × (estimate b t s ≤ cost_of b r + estimate b t (step b r s))
    unfolding passes_test
    rule-bound s r ok l h m =
        let a = relabel_block b in
        let u = relabel_state b s in
        let w = relabel_state b (step b r s) in
        let l' : r < rules a = omega (arith, rules-relabelled b) in
        let e : step_rank a (rank a u) r ≡ rank a w =
        step-rank a relabelled u (image s ok) r (applies-relabelled b v r l s h)
        ∙ ap (rank a) (sym (step-relabelled b v r l s)) in
        let k = passes-rule (graph_of a) t p (rank a u) r (rank-in a relabelled u (image s ok)) l'
        (rw e (rank-in a relabelled w (image (step b r s) (step-state b v r l s ok))))
        (rw e (rw (estimate-rank t (step b r s)) at m)) in
        rw (estimate-rank t s, estimate-rank t (step b r s))
        (k.0, rw (sym (cost-relabelled b r l), sym (ap (λ (x : ℕ). get_or t x 0) e)) k.1)

    pub lower-bound : LowerBound b (estimate b t)
    lower-bound = record { goal = goal-zero; rule = rule-bound }

    pub estimate-bound : NeverTooHigh b (estimate b t)
    estimate-bound = never-too-high (estimate b t) lower-bound

  -- the table of zeros passes
  pub zeros-pass-test : (t : List ℕ) → ((k : ℕ) → k < abstract_states b → get_or t k 0 ≡ 0) → passes_test b t ≡ true
  unfolding passes_test
  zeros-pass-test t z =
      zeros_pass (graph_of (relabel_block b)) t (λ k l. z k (omega (arith, abstract-states-relabelled b)))
