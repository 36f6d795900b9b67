-- What an accepting verdict on the conditions of the call on many queries says (`batch-accepted`). `checks` are the
-- lemmas that the check rests on.
-- The call rests on these once it has refused what is to be refused.
use mathlib.Core.Path.{◌≡◌}
use mathlib.Core.Bool.{true, ◌&&◌}
use mathlib.Core.List.{List, ◌∷◌}
use Prim.Native.Nat.{ℕ, ◌*◌, ◌≤◌}
use lib.Dec.{leb, eqb}
use borrow.Author.Tests.{leb-true, eqb-true}
use Rattle.basics.proofs.Truth.{and-true}
use Rattle.refusals.specs.Answers.{told, verdict, ◌unless◌}
use Rattle.refusals.proofs.Verdicts.{verdict-told, verdict-behind, verdict-before, verdict-parts}
use Rattle.maps.specs.Maps.{exercise_conditions}
use Rattle.records.specs.Records.{query_length, record_room}
use Rattle.search_calls.specs.Searching.{tables_conditions}
use Rattle.batch_calls.specs.Batches.{most_records, record_count, records_ok, batch_conditions}

module _ (b : List ℕ) (bytes room : ℕ) where
  pub record RecordsAccepted : Type 0 where
    pub few : record_count b bytes ≤ most_records
    pub whole : record_count b bytes * query_length b ≡ bytes
    pub fits : record_count b bytes * record_room ≤ room

  records-accepted : records_ok b bytes room ≡ true → RecordsAccepted
  unfolding records_ok
  records-accepted h =
      let count = record_count b bytes in
      let most = leb 1 count && leb count most_records in
      let p = and-true (most && eqb (count * query_length b) bytes) (leb (count * record_room) room) h in
      let q = and-true most (eqb (count * query_length b) bytes) p.0 in
      let r = and-true (leb 1 count) (leb count most_records) q.0 in
      record {
        few = leb-true count most_records r.1;
        whole = eqb-true (count * query_length b) bytes q.1;
        fits = leb-true (count * record_room) room p.1;
      }

module _ (b maps : List ℕ) (bytes : ℕ) (t : List ℕ) (room : ℕ) where
  pub record BatchAccepted : Type 0 where
    pub exercise : verdict (exercise_conditions b maps) ≡ told tt
    pub records : RecordsAccepted b bytes room
    pub tables : verdict (tables_conditions b maps t) ≡ told tt

  pub batch-accepted : verdict (batch_conditions b maps bytes t room) ≡ told tt → BatchAccepted
  unfolding batch_conditions
  batch-accepted h =
      let behind = 16 unless records_ok b bytes room ∷ tables_conditions b maps t in
      let p = verdict-parts (exercise_conditions b maps) behind h in
      let q = verdict-told 16 (records_ok b bytes room) (tables_conditions b maps t) p.1 in
      record { exercise = p.0; records = records-accepted b bytes room q.0; tables = q.1 }

-- what decides the conditions part by part
pub ruleset checks = (verdict-behind, verdict-before)
