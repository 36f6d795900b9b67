-- Applying a rule, as a public call: `apply_rule` is the answer with the final contents of the lent buffer, for every
-- input, and `ApplicationKept` what the call promises. `application_of` gives the document's answer for what the call
-- returns.
use Rattle.std.specs.Prelude.{◌≡◌, ℕ, Bool, true, false, cond, List, [], ◌∷◌, ◌++◌, leb, ltb, length, take}
use Rattle.std.specs.Prelude.{Result, Ok, Err}
use Rattle.basics.specs.Lists.{at_front}
use Rattle.refusals.specs.Answers.{Answer, refused, told, Condition, ◌unless◌, verdict, Outcome, outcome, guarded}
use Rattle.refusals.specs.Refusals.{refusal_number}
use Rattle.refusals.specs.declared.Refusal.{Refusal}
use Rattle.blocks.specs.Layout.{positions, rules}
use Rattle.blocks.specs.States.{state_ok}
use Rattle.psvn.specs.Rules.{applies, step}
use Rattle.psvn_calls.specs.Checking.{state_conditions}

-- 'done' or 'does not apply'
pub data Applied : Type 0 where
  done does_not_apply : Applied

abbrev pub application_of : Result Bool Refusal → Answer Applied
application_of (Ok true) = told done
application_of (Ok false) = told does_not_apply
application_of (Err refusal) = refused (refusal_number refusal)

-- 3 to 8, then 9 and 11; `room` is the length of the buffer
unfoldable pub apply_conditions : List ℕ → ℕ → List ℕ → ℕ → List Condition
apply_conditions b r s room =
    state_conditions b s ++ (9 unless ltb r (rules b) ∷ 11 unless leb (positions b) room ∷ [])

-- the new state stands at the front of the buffer, or nothing is written
unfoldable pub apply_rule : List ℕ → ℕ → List ℕ → List ℕ → Outcome Applied
apply_rule b r s out =
    guarded (verdict (apply_conditions b r s (length out))) out
    (cond (applies b r s) (outcome (told done) (at_front (step b r s) out)) (outcome (told does_not_apply) out))

-- 'done' where the rule's left side matches s: the state that the rule makes, a state of the exercise, then stands at
-- the front of the buffer; 'does not apply' where it does not match
abbrev pub ApplicationKept : List ℕ → ℕ → List ℕ → Answer Applied → List ℕ → Type 0
ApplicationKept b r s (told done) out =
    (applies b r s ≡ true) × (take (positions b) out ≡ step b r s) × (state_ok b (take (positions b) out) ≡ true)
ApplicationKept b r s (told does_not_apply) out = applies b r s ≡ false
ApplicationKept b r s (refused number) out = Unit {0}
