-- `mikjuqan::on_states::mikjuqan_test_goals` meets its contract.
-- The answer is that of the call of `engine`, and so is the promise: the goal told is below FF.
use mathlib.Core.Path.{sym, ap, ◌∙◌}
use Rattle.psvn_calls.proofs.Promises.{met-below}
use Rattle.c_answers.specs.Numbers.{goal_numbers_of, goal_told}
use Rattle.c_answers.proofs.ReadBack.{goal_told_lem}
use Rattle.mikjuqan.proofs.Carried.{tells}
use Rattle.mikjuqan.proofs.on_states.mikjuqan_test_goals.Goals as goal

pub returns : goal.returns
returns c =
    let call = c.test_goals in
    let a = c.args in
    let told =
    goal_told_lem call.result
    (λ g e. met-below a.block.now a.state.now g (sym e ∙ call.ensures.result_value)) in
    record {
      value = c.from.ensures ∙ ap goal_numbers_of call.ensures.result_value;
      goal_test_kept = rw (tells goal_told c.from.ensures told) call.ensures.goal_test_kept;
    }
