-- `blocks::validity::rule_sides_ok` meets its contract.
-- Both sides of a rule lie in the block.
use Rattle.std.proofs.Common.{arith}
use Rattle.blocks.proofs.Offsets.{left-inside, right-inside}
use Rattle.blocks.proofs.validity.rule_sides_ok.Goals as goal

pub side_ok-requires : goal.side_ok-requires
side_ok-requires c = (c.requires.0, omega (arith, left-inside c.args.block.now c.requires.0 c.args.r c.requires.1))

pub side_ok-requires-then-side_ok : goal.side_ok-requires-then-side_ok
side_ok-requires-then-side_ok c =
    (c.requires.0, omega (arith, right-inside c.args.block.now c.requires.0 c.args.r c.requires.1))
