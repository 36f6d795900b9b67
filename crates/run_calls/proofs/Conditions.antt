-- What an accepting verdict on the conditions of a replay says (`replay-accepted`). `checks` are the lemmas that the
-- check rests on.
-- The call that replays a run rests on this once it has refused what is to be refused.
use mathlib.Core.Path.{◌≡◌}
use mathlib.Core.Bool.{true}
use mathlib.Core.List.{List, [], ◌∷◌}
use Prim.Native.Nat.{ℕ, ◌≤◌}
use lib.Dec.{leb}
use lib.ListN.{length}
use borrow.Author.Tests.{leb-true}
use Rattle.refusals.specs.Answers.{told, verdict, ◌unless◌}
use Rattle.refusals.proofs.Verdicts.{verdict-told, verdict-parts, verdict-behind, verdict-before}
use Rattle.blocks.specs.Layout.{positions}
use Rattle.blocks.specs.Validity.{Valid}
use Rattle.blocks.specs.States.{state_ok}
use Rattle.runs.specs.Replay.{numbers_ok, longest_list}
use Rattle.psvn_calls.specs.Checking.{state_conditions}
use Rattle.psvn_calls.proofs.Conditions.{state-accepted, state-long}
use Rattle.run_calls.specs.Replaying.{replay_conditions}

module _ (b s rs : List ℕ) (room : ℕ) where
  pub record ReplayAccepted : Type 0 where
    pub valid : Valid b
    pub state : state_ok b s ≡ true
    pub numbers : numbers_ok b rs ≡ true
    pub short : length rs ≤ longest_list
    pub room-left : positions b ≤ room

  pub replay-accepted : verdict (replay_conditions b s rs room) ≡ told tt → ReplayAccepted
  unfolding replay_conditions
  replay-accepted h =
      let c₁₁ = 11 unless leb (positions b) room in
      let c₁₀ = 10 unless leb (length rs) longest_list in
      let p = verdict-parts (state_conditions b s) (9 unless numbers_ok b rs ∷ c₁₀ ∷ c₁₁ ∷ []) h in
      let q = state-accepted b s p.0 in
      let p₉ = verdict-told 9 (numbers_ok b rs) (c₁₀ ∷ c₁₁ ∷ []) p.1 in
      let p₁₀ = verdict-told 10 (leb (length rs) longest_list) (c₁₁ ∷ []) p₉.1 in
      record {
        valid = q.valid;
        state = q.state;
        numbers = p₉.0;
        short = leb-true (length rs) longest_list p₁₀.0;
        room-left = leb-true (positions b) room (verdict-told 11 (leb (positions b) room) [] p₁₀.1).0;
      }

-- what decides the conditions part by part, and what the parts say that are accepted
pub ruleset checks = (verdict-behind, verdict-before, state-accepted, state-long)
