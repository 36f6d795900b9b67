-- What an accepting verdict on the conditions of the calls on tables says (`table_accepted`, `look-up-accepted`), and
-- the parts of those of a look-up (`look-up-parts`). `checks` are the lemmas that the checks rest on.
-- The calls rest on these once they have refused what is to be refused.
use mathlib.Core.Path.{◌≡◌, refl}
use mathlib.Core.Bool.{true}
use mathlib.Core.List.{List, [], ◌∷◌, ◌++◌}
use Prim.Native.Nat.{ℕ, ◌≤◌}
use lib.Dec.{leb}
use borrow.Author.Tests.{leb-true}
use Rattle.refusals.specs.Answers.{told, verdict, ◌unless◌}
use Rattle.refusals.proofs.Verdicts.{verdict-told, verdict-parts, verdict-behind, verdict-before}
use Rattle.blocks.specs.States.{state_ok}
use Rattle.maps.specs.Maps.{all_entries, exercise_conditions, Mapped}
use Rattle.maps.proofs.MapLaws.{exercise-accepted}
use Rattle.table_calls.specs.WholeTables.{table_conditions}
use Rattle.table_calls.specs.Estimating.{look_up_conditions}

-- a look-up is turned back by block and maps, then by the state, then by the table's length
pub look-up-parts :
    (b maps s : List ℕ) (room : ℕ)
    → look_up_conditions b maps s room
    ≡ exercise_conditions b maps ++ (8 unless state_ok b s ∷ 12 unless leb (all_entries b maps) room ∷ [])
unfolding look_up_conditions
look-up-parts b maps s room = refl

module _ (b maps : List ℕ) (room : ℕ) where
  pub record TableAccepted : Type 0 where
    pub mapped : Mapped b maps
    pub room-left : all_entries b maps ≤ room

  pub table_accepted : verdict (table_conditions b maps room) ≡ told tt → TableAccepted
  unfolding table_conditions
  table_accepted h =
      let long = leb (all_entries b maps) room in
      let p = verdict-parts (exercise_conditions b maps) (12 unless long ∷ []) h in
      record {
        mapped = exercise-accepted b maps p.0;
        room-left = leb-true (all_entries b maps) room (verdict-told 12 long [] p.1).0;
      }

  module _ (s : List ℕ) where
    pub record LookUpAccepted : Type 0 where
      pub mapped : Mapped b maps
      pub state : state_ok b s ≡ true

    pub look-up-accepted : verdict (look_up_conditions b maps s room) ≡ told tt → LookUpAccepted
    unfolding look_up_conditions
    look-up-accepted h =
        let rest = 12 unless leb (all_entries b maps) room ∷ [] in
        let p = verdict-parts (exercise_conditions b maps) (8 unless state_ok b s ∷ rest) h in
        record {
          mapped = exercise-accepted b maps p.0;
          state = (verdict-told 8 (state_ok b s) rest p.1).0;
        }

-- what decides the conditions part by part
pub ruleset checks = (look-up-parts, verdict-behind, verdict-before)
