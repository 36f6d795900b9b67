-- `mikjuqan::on_states::mikjuqan_apply_rule` meets its contract.
-- The answer and the buffer are those of the call of `engine`, and so is the promise.
use mathlib.Core.Path.{◌∙◌}
use Rattle.c_answers.specs.Numbers.{applied_of, applied_told}
use Rattle.c_answers.proofs.ReadBack.{applied_told_lem, applied-decision}
use Rattle.mikjuqan.proofs.Carried.{carried, tells}
use Rattle.mikjuqan.proofs.on_states.mikjuqan_apply_rule.Goals as goal

pub returns : goal.returns
returns c =
    let call = c.apply_rule in
    let shown = c.from.ensures ∙ applied-decision call.result in
    record {
      fact = carried applied_of call.ensures.out_after shown;
      application_kept = rw (tells applied_told shown (applied_told_lem call.result)) call.ensures.application_kept;
    }
