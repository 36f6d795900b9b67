-- `mikjuqan::on_tables::mikjuqan_test_table` meets its contract.
-- The answer is that of the call of `engine`, and so is the promise.
use mathlib.Core.Path.{ap, ◌∙◌}
use Rattle.c_answers.specs.Numbers.{decision_of, decision_told}
use Rattle.c_answers.proofs.ReadBack.{decision_told_lem}
use Rattle.mikjuqan.proofs.Carried.{tells}
use Rattle.mikjuqan.proofs.on_tables.mikjuqan_test_table.Goals as goal

pub returns : goal.returns
returns c =
    let call = c.test_table in
    record {
      value = c.from.ensures ∙ ap decision_of call.ensures.result_value;
      table_test_kept =
          rw (tells decision_told c.from.ensures (decision_told_lem call.result)) call.ensures.table_test_kept;
    }
