-- What the call on many queries gives keeps its promise: where nothing turns it back (`accepted-kept`), and so for
-- every input (`batch-kept`).
-- The call's contract, and the demands, rest on this.
use mathlib.Core.Path.{◌≡◌, refl}
use mathlib.Core.List.{List}
use Prim.Native.Nat.{ℕ, ◌*◌, ◌≤◌}
use lib.ListN.{length, get_or}
use Rattle.basics.specs.Lists.{at_front, Bytes}
use Rattle.basics.specs.Marks.{mark}
use Rattle.refusals.specs.Answers.{Answer, refused, told, verdict, outcome, guarded}
use Rattle.search.specs.Exercises.{estimate_of}
use Rattle.records.specs.Records.{record_room}
use Rattle.batch_calls.specs.Batches.{record_count, query_at, answers_of, batch_conditions, find_plans, BatchKept}
use Rattle.batch_calls.proofs.Conditions.{batch-accepted}
use Rattle.batch_calls.proofs.AnswerRecords.{record-at, query-small}
use Rattle.batch_calls.proofs.SingleCalls.{batch-valid, batch-passing, record-kept}

-- the answer records at the front
abbrev pub written : List ℕ → List ℕ → List ℕ → List ℕ → List ℕ → List ℕ
written b maps queries t answers = at_front (answers_of b (estimate_of b maps t) queries) answers

module _
    (b maps queries t answers : List ℕ) (bytes : Bytes queries) (small : (k : ℕ) → get_or t k 0 ≤ mark) where
  abbrev count : ℕ
  count = record_count b (length queries)

  pub accepted-kept :
      verdict (batch_conditions b maps (length queries) t (length answers)) ≡ told tt
      → BatchKept b maps queries t (told (count * record_room)) (written b maps queries t answers)
  accepted-kept h =
      let k = batch-accepted b maps (length queries) t (length answers) h in
      let valid = batch-valid b maps t k.exercise k.tables in
      let passing = batch-passing b maps t k.exercise k.tables small in (
        refl,
        λ i l.
            record-kept b maps t k.exercise k.tables (query_at b queries i) small (query-small b queries bytes i) _
            (record-at valid passing queries count i l answers),
      )

  pub batch-kept : (let o = find_plans b maps queries t answers in BatchKept b maps queries t o.answer o.out)
  unfolding find_plans
  batch-kept = by-verdict (verdict (batch_conditions b maps (length queries) t (length answers))) refl where
    by-verdict :
        (v : Answer (Unit {0})) → verdict (batch_conditions b maps (length queries) t (length answers)) ≡ v
        → (let o = guarded v answers (outcome (told (count * record_room)) (written b maps queries t answers)) in
        BatchKept b maps queries t o.answer o.out)
    by-verdict (refused k) e = tt
    by-verdict (told u) e = accepted-kept e
