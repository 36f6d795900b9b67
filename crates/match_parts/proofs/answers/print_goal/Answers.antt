-- `match_parts::answers::print_goal` meets its contract.
-- The goal lies in the block.
use native.Mathlib.Omega.{arith}
use Rattle.blocks.proofs.Offsets.{goal-inside}
use Rattle.match_parts.proofs.answers.print_goal.Goals as goal

pub slice_bounds-state-end : goal.slice_bounds-state-end
slice_bounds-state-end g c =
    omega (
      arith,
      c.positions.ensures,
      c.goal_at-at.ensures,
      goal-inside c.args.block.now c.requires.0 c.args.g c.requires.1,
    )
