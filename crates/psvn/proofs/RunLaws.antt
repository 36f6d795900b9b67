-- Laws of lists of rule numbers: one rule more at the end (`run_more`, `cost-more`, `in-turn-more`), rules that apply
-- in turn one by one (`in-turn-at`, `in-turn-intro`), and the last state (`run_length_lem`, `run-state`); a list
-- reaches a goal exactly where its numbers are those of rules, they apply in turn and the last state meets a goal
-- (`reaches-run`, `run-reaches`). Replay rests on these.
use mathlib.Core.Path.{◌≡◌, refl, sym, ap, ◌∙◌}
use mathlib.Core.Bool.{Bool, true, ◌&&◌, and_assoc, and_comm}
use mathlib.Core.List.{List, [], ◌∷◌, ◌++◌}
use Prim.Native.Nat.{ℕ, zero, suc, ◌+◌, ◌<◌}
use native.Mathlib.Nat.{not-suc-le-zero, le_of_suc-le-suc}
use native.Mathlib.Omega.{arith}
use lib.Dec.{ltb}
use lib.ListN.{length, get_or, take}
use borrow.Author.Tests.{ltb-true, lt-ltb}
use Rattle.basics.proofs.Truth.{and-true, and_intro}
use Rattle.blocks.specs.Layout.{positions, rules, cost_of}
use Rattle.blocks.specs.Validity.{Valid}
use Rattle.blocks.specs.States.{state_ok}
use Rattle.psvn.specs.Rules.{applies, step, meets}
use Rattle.psvn.specs.Runs.{RuleNumbers, apply_in_turn, run, total_cost, reaches}
use Rattle.psvn.proofs.Stepping.{step-length, step-state}

module _ (b : List ℕ) where
  -- one rule more
  pub run_more : (s rs : List ℕ) (r : ℕ) → run b s (rs ++ (r ∷ [])) ≡ step b r (run b s rs)
  run_more s [] r = refl
  run_more s (x ∷ rs) r = run_more (step b x s) rs r

  pub cost-more : (rs : List ℕ) (r : ℕ) → total_cost b (rs ++ (r ∷ [])) ≡ total_cost b rs + cost_of b r
  cost-more [] r = omega arith
  cost-more (x ∷ rs) r = omega (arith, cost-more rs r)

  pub in-turn-more :
      (s rs : List ℕ) (r : ℕ) → apply_in_turn b s (rs ++ (r ∷ [])) ≡ (apply_in_turn b s rs && applies b r (run b s rs))
  in-turn-more s [] r = and_comm (applies b r s) true
  in-turn-more s (x ∷ rs) r =
      ap (λ (t : Bool). applies b x s && t) (in-turn-more (step b x s) rs r)
      ∙ sym (and_assoc (applies b x s) (apply_in_turn b (step b x s) rs) (applies b r (run b (step b x s) rs)))

  -- each rule applies where the rules before it have led
  pub in-turn-at :
      (s rs : List ℕ) → apply_in_turn b s rs ≡ true
      → (i : ℕ) → i < length rs → applies b (get_or rs i 0) (run b s (take i rs)) ≡ true
  in-turn-at s [] h i l = absurd (not-suc-le-zero l)
  in-turn-at s (x ∷ rs) h zero l = (and-true (applies b x s) _ h).0
  in-turn-at s (x ∷ rs) h (suc i) l =
      in-turn-at (step b x s) rs (and-true (applies b x s) _ h).1 i (le_of_suc-le-suc l)

  pub in-turn-intro :
      (s rs : List ℕ) → ((i : ℕ) → i < length rs → applies b (get_or rs i 0) (run b s (take i rs)) ≡ true)
      → apply_in_turn b s rs ≡ true
  in-turn-intro s [] h = refl
  in-turn-intro s (x ∷ rs) h =
      and_intro (applies b x s) (apply_in_turn b (step b x s) rs) (h 0 (omega arith))
      (in-turn-intro (step b x s) rs (λ i l. h (suc i) (omega arith)))

  -- states keep their length, and stay states
  pub run_length_lem : (s rs : List ℕ) → length s ≡ positions b → length (run b s rs) ≡ positions b
  run_length_lem s [] e = e
  run_length_lem s (x ∷ rs) e = run_length_lem (step b x s) rs (step-length b x s)

  pub run-state :
      Valid b → (s rs : List ℕ) → state_ok b s ≡ true → RuleNumbers b rs → state_ok b (run b s rs) ≡ true
  run-state v s [] ok h = ok
  run-state v s (x ∷ rs) ok h =
      run-state v (step b x s) rs (step-state b v x (h 0 (omega arith)) s ok) (λ i l. h (suc i) (omega arith))

  -- a list that reaches a goal
  pub record Reaching (s rs : List ℕ) : Type 0 where
    pub numbers : RuleNumbers b rs
    pub in_turn : apply_in_turn b s rs ≡ true
    pub goal : meets b (run b s rs) ≡ true

  pub reaches-run : (s rs : List ℕ) → reaches b s rs ≡ true → Reaching s rs
  reaches-run s [] h = record { numbers = λ i l. absurd (not-suc-le-zero l); in_turn = refl; goal = h }
  reaches-run s (r ∷ rs) h =
      let (number, rest) = and-true (ltb r (rules b)) _ h in
      let (first, others) = and-true (applies b r s) _ rest in
      let q = reaches-run (step b r s) rs others in
      record {
        numbers = numbers_more r rs (ltb-true r (rules b) number) q.numbers;
        in_turn = and_intro (applies b r s) _ first q.in_turn;
        goal = q.goal;
      }
    where
      numbers_more :
          (r : ℕ) (rs : List ℕ) → r < rules b → RuleNumbers b rs → RuleNumbers b (r ∷ rs)
      numbers_more r rs l h zero k = l
      numbers_more r rs l h (suc i) k = h i (le_of_suc-le-suc k)

  pub run-reaches : (s rs : List ℕ) → Reaching s rs → reaches b s rs ≡ true
  run-reaches s [] q = q.goal
  run-reaches s (r ∷ rs) q =
      let (first, others) = and-true (applies b r s) _ q.in_turn in
      and_intro (ltb r (rules b)) _ (lt-ltb r (rules b) (q.numbers 0 (omega arith)))
      (and_intro (applies b r s) _ first
      (run-reaches (step b r s) rs
      (record { numbers = λ i l. q.numbers (suc i) (omega arith); in_turn = others; goal = q.goal })))
