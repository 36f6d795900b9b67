-- `blocks::exercise::Block::goal_at` meets its contract.
use Rattle.blocks.proofs.Offsets.{goal-inside}
use Rattle.blocks.proofs.exercise.Block.goal_at.Goals as goal

pub returns-clause-inside : goal.returns-clause-inside
returns-clause-inside c =
    rw (c.goal_at.ensures.0, c.bytes.ensures.same)
    (goal-inside c.args.self.now c.bytes.ensures.sized c.args.g c.requires)
