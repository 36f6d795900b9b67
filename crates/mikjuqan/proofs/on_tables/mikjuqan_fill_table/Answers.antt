-- `mikjuqan::on_tables::mikjuqan_fill_table` meets its contract.
-- The answer and the buffer are those of the call of `engine`, and so is the promise.
use Rattle.c_answers.specs.Numbers.{refusal_of, done_told}
use Rattle.c_answers.proofs.ReadBack.{done_told_lem}
use Rattle.mikjuqan.proofs.Carried.{carried, tells}
use Rattle.mikjuqan.proofs.on_tables.mikjuqan_fill_table.Goals as goal

pub returns : goal.returns
returns c =
    let call = c.fill_table in
    record {
      fact = carried refusal_of call.ensures.table_after c.refusal_of.ensures;
      filling_kept = rw (tells done_told c.refusal_of.ensures (done_told_lem call.result)) call.ensures.filling_kept;
    }
