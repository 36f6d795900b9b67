-- `mikjuqan::on_tables::mikjuqan_look_up_estimate` meets its contract.
-- The answer is that of the call of `engine`, and so is the promise.
use mathlib.Core.Path.{ap, ◌∙◌}
use Rattle.c_answers.specs.Numbers.{entry_of, entry_told}
use Rattle.c_answers.proofs.ReadBack.{entry_told_lem}
use Rattle.mikjuqan.proofs.Carried.{tells}
use Rattle.mikjuqan.proofs.on_tables.mikjuqan_look_up_estimate.Goals as goal

pub returns : goal.returns
returns c =
    let call = c.look_up_estimate in
    record {
      value = c.from.ensures ∙ ap entry_of call.ensures.result_value;
      estimate_kept = rw (tells entry_told c.from.ensures (entry_told_lem call.result)) call.ensures.estimate_kept;
    }
