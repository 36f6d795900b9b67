-- `mikjuqan::on_lists::mikjuqan_find_plans` meets its contract.
-- The answer and the buffer are those of the call of `engine`, and so is the promise.
use Rattle.c_answers.specs.Numbers.{length_of, length_told}
use Rattle.c_answers.proofs.ReadBack.{length_told_lem}
use Rattle.mikjuqan.proofs.Carried.{carried, tells}
use Rattle.mikjuqan.proofs.on_lists.mikjuqan_find_plans.Goals as goal

pub returns : goal.returns
returns c =
    let call = c.find_plans in
    record {
      fact = carried length_of call.ensures.answers_after c.from.ensures;
      batch_kept = rw (tells length_told c.from.ensures (length_told_lem call.result)) call.ensures.batch_kept;
    }
