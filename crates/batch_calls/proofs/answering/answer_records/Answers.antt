-- `batch_calls::answering::answer_records` meets its contract.
-- Each turn writes the answer record of its query record behind those that are written.
use mathlib.Core.Path.{refl, sym, ap, ◌∙◌}
use mathlib.Core.List.{List}
use Prim.Native.Nat.{ℕ, ◌*◌, ◌-◌}
use lib.ListN.{length}
use borrow.Rule.Slice.PartMut.{mid_of, same_len_mid}
use Rattle.basics.specs.Lists.{at_front, joined}
use Rattle.basics.proofs.Lists.{length-joined, joined-more, front-behind}
use Rattle.records.specs.Records.{record_room, answer_record}
use Rattle.batch_calls.specs.Batches.{whole_record, answer_at}
use Rattle.batch_calls.proofs.AnswerRecords.{answer-length, query-part}
use Rattle.batch_calls.proofs.answering.answer_records.Goals as goal

pub loop-i-preserved : goal.loop-i-preserved
loop-i-preserved c =
    let a = c.args in
    let b = a.block.now in
    let queries = a.queries.now in
    let i = c.loop-i.i in
    let answers = c.loop-i.answers in
    let left = length answers - i * record_room in (
      same_len_mid (i * record_room) left answers c.answer_record.new.out c.answer_record.auto.out
          ∙ c.loop-i.invariant.0,
      λ h rates.
          let f = answer_at b h queries in
          let wide =
          length-joined f record_room i (λ r l. answer-length c.requires.0.compiled.valid rates.passing queries r) in
          let one =
          c.answer_record.ensures h rates
          ∙ ap (λ (q : List ℕ). at_front (whole_record (answer_record b h q)) (mid_of (i * record_room) left answers))
          (query-part b queries i c.query_length-width.result c.query_length-width.ensures.0) in
          front-behind (joined i f) (f i) a.answers.now (sym wide) (c.loop-i.invariant.1 h rates) refl one
          ∙ ap (λ (l : List ℕ). at_front l a.answers.now) (sym (joined-more f i)),
    )
