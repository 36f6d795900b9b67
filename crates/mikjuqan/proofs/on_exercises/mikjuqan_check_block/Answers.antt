-- `mikjuqan::on_exercises::mikjuqan_check_block` meets its contract.
-- The answer is that of the call of `engine`, and so is the promise.
use mathlib.Core.Path.{ap, ◌∙◌}
use Rattle.c_answers.specs.Numbers.{refusal_of, done_told}
use Rattle.c_answers.proofs.ReadBack.{done_told_lem}
use Rattle.mikjuqan.proofs.Carried.{tells}
use Rattle.mikjuqan.proofs.on_exercises.mikjuqan_check_block.Goals as goal

pub returns : goal.returns
returns c =
    let call = c.check_block in
    record {
      value = c.refusal_of.ensures ∙ ap refusal_of call.ensures.result_value;
      check_kept = rw (tells done_told c.refusal_of.ensures (done_told_lem call.result)) call.ensures.check_kept;
    }
