-- `mikjuqan::on_lists::mikjuqan_replay_run` meets its contract.
-- The answer and the buffer are those of the call of `engine`, and so is the promise.
use Rattle.c_answers.specs.Numbers.{replay_numbers_of, replay_told}
use Rattle.c_answers.proofs.ReadBack.{replay_told_lem}
use Rattle.mikjuqan.proofs.Carried.{carried, tells}
use Rattle.mikjuqan.proofs.on_lists.mikjuqan_replay_run.Goals as goal

pub returns : goal.returns
returns c =
    let call = c.replay_run in
    record {
      fact = carried replay_numbers_of call.ensures.out_after c.from.ensures;
      replay_kept = rw (tells replay_told c.from.ensures (replay_told_lem call.result)) call.ensures.replay_kept;
    }
