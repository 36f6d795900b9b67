-- What an accepting verdict on the conditions of a call says: on a block and a state (`state-accepted`), and on a rule
-- and the room for a state beside them (`apply-accepted`); and the parts of those of relabelling (`relabel-parts`).
-- `checks` are the lemmas that the checks of calls rest on.
-- All calls that take a state rest on these once they have refused what is to be refused.
use mathlib.Core.Path.{◌≡◌, refl}
use mathlib.Core.Bool.{true}
use mathlib.Core.List.{List, [], ◌∷◌, ◌++◌}
use Prim.Native.Nat.{ℕ, ◌≤◌, ◌<◌}
use lib.Dec.{leb, ltb}
use lib.ListN.{length}
use borrow.Author.Tests.{leb-true, ltb-true}
use Rattle.refusals.specs.Answers.{told, verdict, ◌unless◌}
use Rattle.refusals.proofs.Verdicts.{verdict-told, verdict-parts, verdict-behind, verdict-before}
use Rattle.blocks.specs.Layout.{head_length, positions, rules}
use Rattle.blocks.specs.Validity.{block_conditions, Headed, Sized, Valid}
use Rattle.blocks.specs.States.{state_ok}
use Rattle.blocks.proofs.Accepted.{accepted-valid}
use Rattle.blocks.proofs.StateLaws.{state-length}
use Rattle.psvn_calls.specs.Checking.{state_conditions}
use Rattle.psvn.specs.Relabelling.{relabel_block}
use Rattle.psvn_calls.specs.Applying.{apply_conditions}
use Rattle.psvn_calls.specs.Relabelling.{relabel_conditions}

-- relabelling is turned back by the block, then by the room
pub relabel-parts :
    (b : List ℕ) (room : ℕ)
    → relabel_conditions b room ≡ block_conditions b ++ (11 unless leb (length (relabel_block b)) room ∷ [])
unfolding relabel_conditions
relabel-parts b room = refl

module _ (b s : List ℕ) where
  pub record StateAccepted : Type 0 where
    pub valid : Valid b
    pub state : state_ok b s ≡ true

  pub state-accepted : verdict (state_conditions b s) ≡ told tt → StateAccepted
  unfolding state_conditions
  state-accepted h =
      let p = verdict-parts (block_conditions b) (8 unless state_ok b s ∷ []) h in
      record { valid = accepted-valid b p.0; state = (verdict-told 8 (state_ok b s) [] p.1).0 }

  pub state-ready : verdict (state_conditions b s) ≡ told tt → Sized b × (length s ≡ positions b)
  state-ready h = let k = state-accepted h in (k.valid.sized, state-length b s k.state)

  pub state-headed : verdict (state_conditions b s) ≡ told tt → Headed b
  state-headed h = (state-accepted h).valid.sized.headed

  pub state-long : verdict (state_conditions b s) ≡ told tt → head_length ≤ length b
  state-long h = (state-accepted h).valid.sized.headed.long

  module _ (r room : ℕ) where
    pub record ApplyAccepted : Type 0 where
      pub valid : Valid b
      pub state : state_ok b s ≡ true
      pub rule : r < rules b
      pub room-left : positions b ≤ room

    pub apply-accepted : verdict (apply_conditions b r s room) ≡ told tt → ApplyAccepted
    unfolding apply_conditions
    apply-accepted h =
        let c₁₁ = 11 unless leb (positions b) room in
        let p = verdict-parts (state_conditions b s) (9 unless ltb r (rules b) ∷ c₁₁ ∷ []) h in
        let q = state-accepted p.0 in
        let p₉ = verdict-told 9 (ltb r (rules b)) (c₁₁ ∷ []) p.1 in
        record {
          valid = q.valid;
          state = q.state;
          rule = ltb-true r (rules b) p₉.0;
          room-left = leb-true (positions b) room (verdict-told 11 (leb (positions b) room) [] p₉.1).0;
        }

-- what decides the conditions part by part, and what the parts say that are accepted
pub ruleset checks = (verdict-behind, verdict-before, accepted-valid, state-accepted, state-long)
