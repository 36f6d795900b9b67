-- `batch_calls::answering::answer_record` meets its contract.
-- The answer is written over zeros.
use mathlib.Core.Path.{ap, ◌∙◌}
use Prim.Native.Nat.{ℕ}
use lib.ListN.{replicate}
use lib.Seq.{length-take-le}
use Rattle.records.specs.Records.{record_room}
use Rattle.records.proofs.AnswerMeaning.{record-short}
use Rattle.batch_calls.proofs.AnswerRecords.{zeros-front, written-whole}
use Rattle.batch_calls.proofs.answering.answer_record.Goals as goal

pub returns : goal.returns
returns c = λ h rates.
    let out = c.args.out.now in
    let short = record-short c.requires.0.compiled.valid rates.passing c.args.query.now in
    let zeros =
    c.fill.ensures.after (λ y e. e)
    ∙ ap (λ (n : ℕ). replicate n 0) (length-take-le record_room out c.requires.2) in
    written-whole out (zeros-front out zeros) short (c.answer_query.ensures h rates)
