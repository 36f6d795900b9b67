-- `blocks::exercise::Block::right_at` meets its contract.
use Rattle.blocks.proofs.Offsets.{right-inside}
use Rattle.blocks.proofs.exercise.Block.right_at.Goals as goal

pub returns-clause-inside : goal.returns-clause-inside
returns-clause-inside c =
    rw (c.right_at.ensures.0, c.bytes.ensures.same)
    (right-inside c.args.self.now c.bytes.ensures.sized c.args.r c.requires)
