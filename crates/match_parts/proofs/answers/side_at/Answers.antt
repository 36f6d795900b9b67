-- `match_parts::answers::side_at` meets its contract.
-- Each side lies in the block.
use Prim.Native.Nat.{◌-◌}
use native.Mathlib.Omega.{arith}
use Rattle.blocks.proofs.Offsets.{left-inside, goal-inside}
use Rattle.match_parts.proofs.answers.side_at.Goals as goal

pub returns-then-k-rules : goal.returns-then-k-rules
returns-then-k-rules c =
    omega (arith, c.left_at.ensures, left-inside c.args.block.now c.requires.0 c.args.k (omega arith))

pub returns-else-k-rules : goal.returns-else-k-rules
returns-else-k-rules c =
    let rules = c.rules-rules.result in
    omega (
      arith,
      c.goal_at.ensures,
      goal-inside c.args.block.now c.requires.0 (c.args.k - rules) (omega arith),
    )
