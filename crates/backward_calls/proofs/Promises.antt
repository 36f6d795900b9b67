-- What the calls promise, from the values that they give: `predecessor-kept` and `reversibility-kept`; of
-- accepted calls `stepped-kept` and `reversing-kept`. Behind them stand the lemmas that the calls rest on.
-- The proofs of the calls rest on these for the second part of their contracts.
use mathlib.Core.Path.{◌≡◌, refl, sym, subst, ◌∙◌}
use mathlib.Core.Bool.{Bool, true, false}
use mathlib.Core.List.{List, [], ◌∷◌}
use Prim.Native.Nat.{ℕ, ◌<◌}
use lib.Dec.{ltb}
use lib.ListN.{length}
use borrow.Author.Tests.{ltb-true}
use Rattle.basics.proofs.Lists.{front-taken}
use Rattle.basics.proofs.Truth.{true-false}
use Rattle.refusals.specs.Answers.{Answer, refused, told, verdict, answered, ◌unless◌, Outcome, outcome, guarded}
use Rattle.refusals.proofs.Verdicts.{verdict-told, verdict-parts, verdict-behind, verdict-before}
use Rattle.blocks.specs.Layout.{positions, rules}
use Rattle.blocks.specs.Validity.{block_conditions, Valid}
use Rattle.blocks.proofs.Accepted.{accepted-valid}
use Rattle.blocks.proofs.StateLaws.{state-length}
use Rattle.backward.specs.Predecessors.{Earlier, from_first, NextState, found, none_further, is_found, written_out}
use Rattle.backward.specs.Predecessors.{step_back, NextPredecessor}
use Rattle.backward.specs.Reversible.{reversible}
use Rattle.backward.proofs.NextState.{found-next, none-none}
use Rattle.backward.proofs.OneToOne.{reversible-one, reversible_exactly}
use Rattle.psvn_calls.specs.Applying.{apply_conditions}
use Rattle.psvn_calls.proofs.Conditions.{apply-accepted}
use Rattle.backward_calls.specs.Predecessors.{step_back_conditions, step_back_from, PredecessorKept}
use Rattle.backward_calls.specs.Reversing.{reversible_conditions, test_reversible, ReversibilityKept}
use Rattle.backward_calls.proofs.Conditions.{reversible-parts, first-conditions, step-back-accepted}

module _ (b : List ℕ) (r : ℕ) where
  module _ (s : List ℕ) (earlier : Earlier) (out : List ℕ) where
    abbrev Kept : Outcome Bool → Type 0
    Kept o = PredecessorKept b r s earlier o.answer o.out

    -- by the verdict, and by what stepping back gives
    stepped_by :
        (v : Answer (Unit {0})) → verdict (step_back_conditions b r s earlier (length out)) ≡ v
        → (next : NextState) → step_back b r s earlier ≡ next
        → Kept (guarded v out (outcome (told (is_found next)) (written_out next out)))
    stepped_by (refused k) h next e = tt
    stepped_by (told u) h (found w) e =
        let head = (step-back-accepted b s r (length out) earlier h).valid.sized.headed in
        let n = found-next b head r s earlier w e in
        let front = front-taken w out (positions b) (sym (state-length b w n.state)) in
        subst (NextPredecessor b r s earlier) (sym front) n
    stepped_by (told u) h none_further e =
        none-none b (step-back-accepted b s r (length out) earlier h).valid.sized.headed r s earlier e

    -- of an accepted call, by what it tells and leaves in the buffer
    pub stepped-kept :
        (answer : Bool) (out' : List ℕ) → verdict (step_back_conditions b r s earlier (length out)) ≡ told tt
        → answer ≡ is_found (step_back b r s earlier) → out' ≡ written_out (step_back b r s earlier) out
        → PredecessorKept b r s earlier (told answer) out'
    stepped-kept answer out' h p q = rw (p, q) (stepped_by (told tt) h (step_back b r s earlier) refl)

    pub predecessor-kept :
        {a : Answer Bool} {out' : List ℕ} → outcome a out' ≡ step_back_from b r s earlier out
        → PredecessorKept b r s earlier a out'
    unfolding step_back_from
    predecessor-kept e = subst Kept (sym e) (stepped_by _ refl (step_back b r s earlier) refl)

  -- from 'first' the call is accepted as applying the rule is
  pub first-kept :
      (s out : List ℕ) (answer : Bool) (out' : List ℕ) → verdict (apply_conditions b r s (length out)) ≡ told tt
      → answer ≡ is_found (step_back b r s from_first) → out' ≡ written_out (step_back b r s from_first) out
      → PredecessorKept b r s from_first (told answer) out'
  first-kept s out answer out' h = stepped-kept s from_first out answer out' (first-conditions b s r (length out) ∙ h)

  -- by the form, of a rule of a valid block
  form-kept : Valid b → r < rules b → (t : Bool) → reversible b r ≡ t → ReversibilityKept b r (told t)
  form-kept v below true e = reversible-one b r e
  form-kept v below false e = λ two one. true-false ((reversible_exactly b r v below two).1 one) e

  -- by the verdict, and by the form
  reversible-by :
      (v : Answer (Unit {0})) → verdict (reversible_conditions b r) ≡ v → (t : Bool) → reversible b r ≡ t
      → ReversibilityKept b r (answered v t)
  unfolding reversible_conditions
  reversible-by (refused k) h t e = tt
  reversible-by (told u) h t e =
      let p = verdict-parts (block_conditions b) (9 unless ltb r (rules b) ∷ []) h in
      let below = ltb-true r (rules b) (verdict-told 9 (ltb r (rules b)) [] p.1).0 in
      form-kept (accepted-valid b p.0) below t e

  -- of an accepted call, by what it tells
  pub reversing-kept :
      (answer : Bool) → verdict (block_conditions b) ≡ told tt → r < rules b → answer ≡ reversible b r
      → ReversibilityKept b r (told answer)
  reversing-kept answer h below p = rw p (form-kept (accepted-valid b h) below (reversible b r) refl)

  pub reversibility-kept : {a : Answer Bool} → a ≡ test_reversible b r → ReversibilityKept b r a
  unfolding test_reversible
  reversibility-kept e = subst (ReversibilityKept b r) (sym e) (reversible-by _ refl (reversible b r) refl)

-- what stepping back rests on, and what the test of a rule's form rests on
pub ruleset steps_back = (first-conditions, step-back-accepted, apply-accepted, stepped-kept, first-kept)

pub ruleset forms = (reversible-parts, verdict-behind, verdict-before, accepted-valid, reversing-kept)
