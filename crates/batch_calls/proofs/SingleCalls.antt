-- The record that answers a query is what a single call gives for its start and limits, with the same block, maps and
-- tables (`single-bytes`), and keeps all that is promised of it (`record-kept`).
-- The promise of the call on many queries rests on this.
use mathlib.Core.Path.{◌≡◌, refl, sym, ap, ◌∙◌}
use mathlib.Core.List.{List}
use Prim.Native.Nat.{ℕ, ◌≤◌}
use native.Mathlib.Omega.{arith}
use lib.ListN.{length, get_or}
use borrow.Author.Tests.{le-leb}
use Rattle.basics.specs.Lists.{at_front, Bytes}
use Rattle.basics.specs.Marks.{mark}
use Rattle.basics.proofs.Lists.{front-taken}
use Rattle.refusals.specs.Answers.{Answer, refused, told, verdict, answered, Outcome, outcome, guarded}
use Rattle.blocks.specs.Validity.{Valid}
use Rattle.maps.specs.Maps.{exercise_conditions, Mapped}
use Rattle.maps.proofs.MapLaws.{exercise-accepted}
use Rattle.queries.specs.Queries.{longest_plan}
use Rattle.queries.proofs.QueryLaws.{query-accepted}
use Rattle.rounds.specs.Systems.{Estimate}
use Rattle.rounds.specs.Rounds as rounds
use Rattle.search.specs.Exercises.{Passes, estimate_of, plan_goal}
use Rattle.search.proofs.Demand.{tables-passing}
use Rattle.records.specs.Records.{start_of, limits_of, record_conditions, search_asked, answer_bytes, goal_asked}
use Rattle.records.specs.Records.{record_of}
use Rattle.records.specs.Records.{answer_record}
use Rattle.records.proofs.AnswerMeaning.{answer-means}
use Rattle.search_calls.specs.Searching.{SearchAnswer, reported, tables_conditions, search_conditions, find_plan}
use Rattle.search_calls.specs.Searching.{told_by_status}
use Rattle.search_calls.proofs.Conditions.{query-refused, lent-decides, lent-decided, tables-accepted}
use Rattle.batch_calls.specs.Batches.{whole_record, call_bytes, RecordKept}

-- the answer of the rounds is read back from what a single call tells and leaves
told_back :
    (goal : ℕ) (a : rounds.Answer) (buffer : List ℕ)
    → told_by_status (reported goal a).status (reported goal a).plan (at_front (rounds.plan a) buffer) ≡ a
unfolding rounds.visits
told_back goal (rounds.found u p c) buffer =
    ap (λ (l : List ℕ). rounds.found u l c) (front-taken p buffer (length p) refl)
told_back goal (rounds.no_plan u) buffer = refl
told_back goal (rounds.spent u) buffer = refl

module _
    (b maps t : List ℕ) (exercise : verdict (exercise_conditions b maps) ≡ told tt)
    (tables : verdict (tables_conditions b maps t) ≡ told tt) where
  abbrev h : List ℕ → Estimate
  h = estimate_of b maps t

  mapped : Mapped b maps
  mapped = exercise-accepted b maps exercise

  pub batch-valid : Valid b
  batch-valid = mapped.valid 0 (omega arith)

  pub batch-passing : ((i : ℕ) → get_or t i 0 ≤ mark) → Passes b h
  batch-passing small = tables-passing b maps t mapped small (tables-accepted b maps t tables).passing

  module _ (q : List ℕ) where
    -- nothing but what turns the record back turns a single call back that has room for every plan
    single-verdict :
        (room : ℕ) → longest_plan ≤ room
        → verdict (search_conditions b maps (start_of b q) (limits_of b q) t room) ≡ verdict (record_conditions b q)
    single-verdict room l = by-verdict (verdict (record_conditions b q)) refl where
      by-verdict :
          (v : Answer (Unit {0})) → verdict (record_conditions b q) ≡ v
          → verdict (search_conditions b maps (start_of b q) (limits_of b q) t room) ≡ v
      by-verdict (refused k) e = query-refused b maps (start_of b q) (limits_of b q) t room exercise k e
      by-verdict (told u) e =
          let few = (query-accepted b (start_of b q) (limits_of b q) e).steps_few in
          let roomy = le-leb (limits_of b q).steps room (omega (arith, few)) in
          lent-decides b maps (start_of b q) (limits_of b q) t room exercise e
          ∙ lent-decided b maps (limits_of b q).steps t room _ roomy ∙ tables

    -- what a single call gives where nothing turns it back, and by a verdict
    abbrev given : List ℕ → Outcome SearchAnswer
    given plan =
        let a = search_asked b h q in
        outcome (told (reported (plan_goal b (start_of b q) a) a)) (at_front (rounds.plan a) plan)

    abbrev bytes-by : List ℕ → Answer (Unit {0}) → List ℕ
    bytes-by plan v = let o = guarded v plan (given plan) in call_bytes o.answer o.out

    pub single-bytes :
        (plan : List ℕ) → longest_plan ≤ length plan
        → (let o = find_plan b maps (start_of b q) (limits_of b q) t plan in call_bytes o.answer o.out)
        ≡ answer_record b h q
    unfolding find_plan answer_record search_asked
    single-bytes plan l =
        ap (bytes-by plan) (single-verdict (length plan) l) ∙ by-verdict (verdict (record_conditions b q)) where
          by-verdict : (v : Answer (Unit {0})) → bytes-by plan v ≡ record_of b q (answered v (search_asked b h q))
          by-verdict (refused k) = refl
          by-verdict (told u) =
              ap (answer_bytes (goal_asked b q (search_asked b h q)))
              (told_back (goal_asked b q (search_asked b h q)) (search_asked b h q) plan)

    -- the record by the verdict on it
    record-by :
        (v : Answer (Unit {0})) → verdict (record_conditions b q) ≡ v
        → answer_record b h q ≡ record_of b q (answered v (search_asked b h q))
    unfolding answer_record
    record-by v e = ap (λ (w : Answer (Unit {0})). record_of b q (answered w (search_asked b h q))) e

    pub record-kept :
        ((i : ℕ) → get_or t i 0 ≤ mark) → Bytes q → (bytes : List ℕ) → bytes ≡ whole_record (answer_record b h q)
        → RecordKept b maps q t bytes
    record-kept small whole bytes e =
        record {
          single = λ plan l. e ∙ ap whole_record (sym (single-bytes plan l));
          refused_query = λ k r. e ∙ ap whole_record (record-by (refused k) r);
          query =
              λ r. (
                e ∙ ap whole_record (record-by (told tt) r),
                answer-means batch-valid (batch-passing small) q r whole,
              );
        }
