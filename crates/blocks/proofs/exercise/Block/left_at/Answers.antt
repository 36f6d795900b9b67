-- `blocks::exercise::Block::left_at` meets its contract.
use Rattle.blocks.proofs.Offsets.{left-inside}
use Rattle.blocks.proofs.exercise.Block.left_at.Goals as goal

pub returns-clause-inside : goal.returns-clause-inside
returns-clause-inside c =
    rw (c.left_at.ensures.0, c.bytes.ensures.same)
    (left-inside c.args.self.now c.bytes.ensures.sized c.args.r c.requires)
