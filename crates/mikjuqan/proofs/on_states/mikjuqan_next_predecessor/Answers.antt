-- `mikjuqan::on_states::mikjuqan_next_predecessor` meets its contract.
-- The answer and the buffer are those of the call of `engine`, and so is the promise.
use Rattle.c_answers.specs.Numbers.{decision_of, decision_told}
use Rattle.c_answers.proofs.ReadBack.{decision_told_lem}
use Rattle.mikjuqan.proofs.Carried.{carried, tells}
use Rattle.mikjuqan.proofs.on_states.mikjuqan_next_predecessor.Goals as goal

pub returns : goal.returns
returns c =
    let call = c.next_predecessor in
    record {
      fact = carried decision_of call.ensures.out_after c.from.ensures;
      predecessor_kept =
          rw (tells decision_told c.from.ensures (decision_told_lem call.result)) call.ensures.predecessor_kept;
    }
