-- `mikjuqan::on_lists::mikjuqan_find_plan` meets its contract.
-- The answer and the buffer are those of the call of `engine`, and so is the promise.
use Rattle.c_answers.specs.Numbers.{search_numbers_of, search_told}
use Rattle.c_answers.proofs.ReadBack.{search_told_lem}
use Rattle.mikjuqan.proofs.Carried.{carried, tells}
use Rattle.mikjuqan.proofs.on_lists.mikjuqan_find_plan.Goals as goal

pub returns : goal.returns
returns c =
    let call = c.find_plan in
    record {
      fact = carried search_numbers_of call.ensures.plan_after c.from.ensures;
      plan_kept = rw (tells search_told c.from.ensures (search_told_lem call.result)) call.ensures.plan_kept;
    }
