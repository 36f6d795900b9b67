-- `batch_calls::batches::find_plans` meets its contract.
-- An accepted call has whole query records with room for their answers; the arrays rate by the tables, and so the
-- answer records are those of the estimate, with what is promised of each.
use mathlib.Core.Path.{◌≡◌, sym, ap, ap₂, ◌∙◌, subst}
use mathlib.Core.List.{List}
use Prim.Native.Nat.{ℕ, ◌*◌}
use native.Mathlib.Omega.{arith}
use lib.ListN.{length}
use Rattle.basics.specs.Lists.{at_front, joined}
use Rattle.refusals.specs.Answers.{Answer, told, outcome, guarded}
use Rattle.maps.proofs.MapLaws.{exercise-accepted}
use Rattle.search.specs.Exercises.{estimate_of}
use Rattle.search.proofs.Instance.{ready-rates}
use Rattle.search_calls.proofs.Conditions.{tables-accepted}
use Rattle.records.specs.Records.{record_room}
use Rattle.batch_calls.specs.Batches.{record_count, answer_at, find_plans, BatchKept}
use Rattle.batch_calls.proofs.Conditions.{batch-accepted}
use Rattle.batch_calls.proofs.SingleCalls.{batch-passing}
use Rattle.batch_calls.proofs.Promises.{written, accepted-kept}
use Rattle.batch_calls.proofs.batches.find_plans.Goals as goal

pub make_ready-requires : goal.make_ready-requires
make_ready-requires c =
    let a = c.args in
    let k =
    batch-accepted a.block.now a.maps.now (length a.queries.now) a.table.now (length a.answers.now)
    (sym c.in_ok-check_batch.ensures) in (
      exercise-accepted a.block.now a.maps.now k.exercise,
      (tables-accepted a.block.now a.maps.now a.table.now k.tables).entries,
    )

pub answer_records-requires : goal.answer_records-requires
answer_records-requires c =
    let a = c.args in
    let k =
    batch-accepted a.block.now a.maps.now (length a.queries.now) a.table.now (length a.answers.now)
    (sym c.in_ok-check_batch.ensures) in
    let e = c.record_count-count.ensures in
    let whole = k.records.whole in
    (c.make_ready.ensures.prepared, rw e (omega (arith, whole)), rw e k.records.fits)

pub overflow_mul-result : goal.overflow_mul-result
overflow_mul-result c =
    let a = c.args in
    let k =
    batch-accepted a.block.now a.maps.now (length a.queries.now) a.table.now (length a.answers.now)
    (sym c.in_ok-check_batch.ensures) in
    let few = k.records.few in
    omega (arith, c.record_count-count.ensures)

pub returns : goal.returns
unfolding find_plans
returns c =
    let a = c.args in
    let b = a.block.now in
    let rate = estimate_of b a.maps.now a.table.now in
    let accepted = sym c.in_ok-check_batch.ensures in
    let k =
    batch-accepted b a.maps.now (length a.queries.now) a.table.now (length a.answers.now) accepted in
    let bytes = c.type_inv.queries in
    let small = c.type_inv.table in
    let rated =
    ready-rates (exercise-accepted b a.maps.now k.exercise) c.make_ready.ensures
    (batch-passing b a.maps.now a.table.now k.exercise k.tables (λ i. omega (arith, small i))) in
    let n = ap (λ (count : ℕ). count * record_room) c.record_count-count.ensures in
    let out = c.answer_records.new.answers in
    let left : out ≡ written b a.maps.now a.queries.now a.table.now a.answers.now =
    c.answer_records.ensures rate rated
    ∙ ap (λ (count : ℕ). at_front (joined count (answer_at b rate a.queries.now)) a.answers.now)
    c.record_count-count.ensures in
    let kept =
    accepted-kept b a.maps.now a.queries.now a.table.now a.answers.now (λ i. omega (arith, bytes i))
    (λ i. omega (arith, small i)) accepted in
    record {
      answers_after = ap₂ (λ (count : ℕ) (l : List ℕ). outcome (told count) l) n left
          ∙ sym (ap (λ (v : Answer (Unit {0})). guarded v a.answers.now
          (outcome (told (record_count b (length a.queries.now) * record_room))
          (written b a.maps.now a.queries.now a.table.now a.answers.now))) accepted);
      batch_kept =
          subst (λ (count : ℕ). BatchKept b a.maps.now a.queries.now a.table.now (told count) out) (sym n)
          (rw left kept);
    }
