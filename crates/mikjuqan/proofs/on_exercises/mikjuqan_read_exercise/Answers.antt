-- `mikjuqan::on_exercises::mikjuqan_read_exercise` meets its contract.
-- The answer and the buffer are those of the call of `engine`, and so is the promise.
use Rattle.c_answers.specs.Numbers.{length_of, length_told}
use Rattle.c_answers.proofs.ReadBack.{length_told_lem}
use Rattle.mikjuqan.proofs.Carried.{carried, tells}
use Rattle.mikjuqan.proofs.on_exercises.mikjuqan_read_exercise.Goals as goal

pub returns : goal.returns
returns c =
    let call = c.read_exercise in
    record {
      fact = carried length_of call.ensures.out_after c.from.ensures;
      reading_kept = rw (tells length_told c.from.ensures (length_told_lem call.result)) call.ensures.reading_kept;
    }
