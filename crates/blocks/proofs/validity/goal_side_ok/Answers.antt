-- `blocks::validity::goal_side_ok` meets its contract.
-- A goal's side lies in the block.
use Rattle.std.proofs.Common.{arith}
use Rattle.blocks.proofs.Offsets.{goal-inside}
use Rattle.blocks.proofs.validity.goal_side_ok.Goals as goal

pub side_ok-requires : goal.side_ok-requires
side_ok-requires c = (c.requires.0, omega (arith, goal-inside c.args.block.now c.requires.0 c.args.g c.requires.1))
