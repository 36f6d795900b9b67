-- What an accepting verdict on the conditions of stepping back says (`step-back-accepted`), and that stepping back from
-- 'first' is refused as applying the rule is (`first-conditions`); and the parts of those of the test of a rule's form
-- (`reversible-parts`). `checks` are the lemmas that the check rests on.
-- The calls of stepping back rest on these once they have refused what is to be refused.
use mathlib.Core.Path.{◌≡◌, refl}
use mathlib.Core.Bool.{true}
use mathlib.Core.List.{List, [], ◌∷◌, ◌++◌}
use Prim.Native.Nat.{ℕ, ◌≤◌, ◌<◌}
use lib.Dec.{leb, ltb}
use borrow.Author.Tests.{leb-true, ltb-true}
use Rattle.refusals.specs.Answers.{told, verdict, ◌unless◌}
use Rattle.refusals.proofs.Verdicts.{verdict-told, verdict-parts, verdict-skip, verdict-behind, verdict-before}
use Rattle.blocks.specs.Layout.{positions, rules}
use Rattle.blocks.specs.Validity.{block_conditions, Valid}
use Rattle.blocks.specs.States.{state_ok}
use Rattle.backward.specs.Predecessors.{Earlier, from_first}
use Rattle.psvn_calls.specs.Checking.{state_conditions}
use Rattle.psvn_calls.specs.Applying.{apply_conditions}
use Rattle.psvn_calls.proofs.Conditions.{state-accepted, state-headed, state-long}
use Rattle.backward_calls.specs.Reversing.{reversible_conditions}
use Rattle.backward_calls.specs.Predecessors.{earlier_ok, step_back_conditions}

-- the test of a rule's form is turned back by the block, then by the rule number
pub reversible-parts :
    (b : List ℕ) (r : ℕ) → reversible_conditions b r ≡ block_conditions b ++ (9 unless ltb r (rules b) ∷ [])
unfolding reversible_conditions
reversible-parts b r = refl

module _ (b s : List ℕ) (r room : ℕ) where
  -- from 'first' there is no earlier state to refuse
  pub first-conditions : verdict (step_back_conditions b r s from_first room) ≡ verdict (apply_conditions b r s room)
  unfolding step_back_conditions apply_conditions
  first-conditions =
      verdict-skip (state_conditions b s) (9 unless ltb r (rules b) ∷ 11 unless leb (positions b) room ∷ []) 8

  module _ (earlier : Earlier) where
    pub record StepBackAccepted : Type 0 where
      pub valid : Valid b
      pub state : state_ok b s ≡ true
      pub earlier-state : earlier_ok b earlier ≡ true
      pub rule : r < rules b
      pub room-left : positions b ≤ room

    pub step-back-accepted : verdict (step_back_conditions b r s earlier room) ≡ told tt → StepBackAccepted
    unfolding step_back_conditions
    step-back-accepted h =
        let c₁₁ = 11 unless leb (positions b) room in
        let c₉ = 9 unless ltb r (rules b) in
        let p = verdict-parts (state_conditions b s) (8 unless earlier_ok b earlier ∷ c₉ ∷ c₁₁ ∷ []) h in
        let q = state-accepted b s p.0 in
        let p₈ = verdict-told 8 (earlier_ok b earlier) (c₉ ∷ c₁₁ ∷ []) p.1 in
        let p₉ = verdict-told 9 (ltb r (rules b)) (c₁₁ ∷ []) p₈.1 in
        record {
          valid = q.valid;
          state = q.state;
          earlier-state = p₈.0;
          rule = ltb-true r (rules b) p₉.0;
          room-left = leb-true (positions b) room (verdict-told 11 (leb (positions b) room) [] p₉.1).0;
        }

-- what decides the conditions part by part, and what the parts say that are accepted
pub ruleset checks = (verdict-behind, verdict-before, state-headed, state-long)
