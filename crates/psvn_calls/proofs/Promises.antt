-- What the calls promise, from the values that they give: `application-kept`, `check-kept`, `goal-test-kept` and
-- `relabelling-kept`; and that a goal told is not the byte for none (`met-below`). Behind them stand the lemmas that
-- each call rests on. The C interface rests on the first five.
use mathlib.Core.Path.{◌≡◌, refl, sym, subst}
use mathlib.Core.Bool.{Bool, true, false, cond}
use mathlib.Core.List.{List, [], ◌∷◌}
use Rattle.std.proofs.Common.{Option, None, Some}
use Prim.Native.Nat.{ℕ, ◌<◌}
use native.Mathlib.Omega.{arith}
use lib.Dec.{leb}
use lib.ListN.{length, take}
use Rattle.basics.specs.Lists.{at_front}
use Rattle.basics.proofs.Lists.{front-taken}
use Rattle.refusals.specs.Answers.{Answer, refused, told, verdict, answered, ◌unless◌, Outcome, outcome, guarded}
use Rattle.refusals.proofs.Verdicts.{told-refused, verdict-parts, verdict-behind, verdict-before}
use Rattle.blocks.specs.Layout.{positions}
use Rattle.blocks.specs.Validity.{block_conditions}
use Rattle.blocks.specs.States.{state_ok}
use Rattle.blocks.proofs.Accepted.{accepted-valid, valid-accepted}
use Rattle.blocks.proofs.StateLaws.{state-length}
use Rattle.psvn.specs.Rules.{applies, step, met_goal, no_goal}
use Rattle.psvn.specs.Relabelling.{relabel_block}
use Rattle.psvn.proofs.GoalLaws.{lowest-met, none-met}
use Rattle.psvn.proofs.Stepping.{step-length, step-state}
use Rattle.psvn.proofs.Relabelled.{relabelled-length}
use Rattle.psvn.proofs.RelabelTwice.{relabel-twice}
use Rattle.psvn.proofs.RelabelledValid.{relabelled_valid}
use Rattle.psvn_calls.specs.Applying.{Applied, done, does_not_apply, apply_conditions, apply_rule, ApplicationKept}
use Rattle.psvn_calls.specs.Checking.{check_block, CheckKept, state_conditions}
use Rattle.psvn_calls.specs.Goals.{test_goals, GoalTestKept}
use Rattle.psvn_calls.specs.Relabelling.{relabel_conditions, relabel_exercise, RelabellingKept}
use Rattle.psvn_calls.proofs.Conditions.{relabel-parts, state-accepted, state-ready, apply-accepted}

module _ (b : List ℕ) where
  pub check-kept : (a : Answer (Unit {0})) → a ≡ check_block b → CheckKept b a
  unfolding check_block
  check-kept (told u) e = accepted-valid b (sym e)
  check-kept (refused k) e = λ v. told-refused (valid-accepted b v) (sym e)

  module _ (s : List ℕ) where
    -- by the verdict, and by the goal that is met
    goals-by : (v : Answer (Unit {0})) (x : Option ℕ) → met_goal b s ≡ x → GoalTestKept b s (answered v x)
    goals-by (refused k) x e = tt
    goals-by (told u) (Some g) e = lowest-met b s g e
    goals-by (told u) None e = none-met b s e

    pub goal-test-kept : {a : Answer (Option ℕ)} → a ≡ test_goals b s → GoalTestKept b s a
    unfolding test_goals
    goal-test-kept e = subst (GoalTestKept b s) (sym e) (goals-by (verdict (state_conditions b s)) (met_goal b s) refl)

    -- an accepted block has at most 8 goals
    pub met-below : (g : ℕ) → told (Some g) ≡ test_goals b s → g < no_goal
    unfolding test_goals
    met-below g e = go (verdict (state_conditions b s)) refl
      where
        go : (v : Answer (Unit {0})) → verdict (state_conditions b s) ≡ v → g < no_goal
        go (refused k) h = absurd (told-refused {k = k} (sym e) (rw h))
        go (told u) h = omega (arith, (goal-test-kept e).goal, (state-accepted b s h).valid.sized.headed.sizes.g_high)

    module _ (r : ℕ) (out : List ℕ) where
      abbrev Kept : Outcome Applied → Type 0
      Kept o = ApplicationKept b r s o.answer o.out

      -- an accepted call's rule makes a state, which then stands at the front of the buffer
      pub record Stepped : Type 0 where
        pub front : take (positions b) (at_front (step b r s) out) ≡ step b r s
        pub state : state_ok b (step b r s) ≡ true

      pub stepped : verdict (apply_conditions b r s (length out)) ≡ told tt → Stepped
      stepped h =
          let ready = apply-accepted b s r (length out) h in
          record {
            front = front-taken (step b r s) out (positions b) (sym (step-length b r s));
            state = step-state b ready.valid r ready.rule s ready.state;
          }

      -- by the verdict, and by whether the rule applies
      applied_by :
          (v : Answer (Unit {0})) → verdict (apply_conditions b r s (length out)) ≡ v → (t : Bool) → applies b r s ≡ t
          → Kept (guarded v out
          (cond t (outcome (told done) (at_front (step b r s) out)) (outcome (told does_not_apply) out)))
      applied_by (refused k) h t e = tt
      applied_by (told u) h true e = let k = stepped h in (e, k.front, rw k.front k.state)
      applied_by (told u) h false e = e

      pub application-kept :
          {a : Answer Applied} {out' : List ℕ} → outcome a out' ≡ apply_rule b r s out → ApplicationKept b r s a out'
      unfolding apply_rule
      application-kept e = subst Kept (sym e) (applied_by _ refl (applies b r s) refl)

  module _ (out : List ℕ) where
    relabelled-by :
        (v : Answer (Unit {0})) → verdict (relabel_conditions b (length out)) ≡ v
        → (let o = guarded v out (outcome (told (length (relabel_block b))) (at_front (relabel_block b) out)) in
        RelabellingKept o.answer o.out)
    unfolding relabel_conditions
    relabelled-by (refused k) h = tt
    relabelled-by (told u) h =
        let new = relabel_block b in
        let valid =
        accepted-valid b
        (verdict-parts (block_conditions b) (11 unless leb (length new) (length out) ∷ []) h).0 in
        let front = front-taken new out (length new) refl in
        rw front (refl, relabelled_valid b valid, relabel-twice b valid)

    pub relabelling-kept :
        {a : Answer ℕ} {out' : List ℕ} → outcome a out' ≡ relabel_exercise b out → RelabellingKept a out'
    unfolding relabel_exercise
    relabelling-kept e =
        subst (λ (o : Outcome ℕ). RelabellingKept o.answer o.out) (sym e) (relabelled-by _ refl)

-- what applying a rule rests on
pub ruleset steps = (apply-accepted, state-length, stepped)

-- what relabelling rests on
pub ruleset relabels = (
  relabel-parts,
  verdict-behind,
  verdict-before,
  accepted-valid,
  relabelled-length,
  front-taken,
  relabelled_valid,
  relabel-twice,
)

-- what checking a block rests on
pub ruleset checked_blocks = (check-kept)

-- what the goal test rests on
pub ruleset goal_tests = (state-ready, goal-test-kept)
