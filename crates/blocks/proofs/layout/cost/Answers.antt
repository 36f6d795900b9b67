-- `blocks::layout::cost` meets its contract.
-- A rule's first byte lies in the block.
use mathlib.Core.Path.{ap}
use Prim.Native.Nat.{ℕ}
use native.Mathlib.Omega.{arith}
use lib.ListN.{get_or}
use Rattle.blocks.specs.Layout.{cost_of}
use Rattle.blocks.proofs.Offsets.{cost-inside}
use Rattle.blocks.proofs.layout.cost.Goals as goal

pub bounds-block-rule_at : goal.bounds-block-rule_at
bounds-block-rule_at c =
    let a = c.args in
    let p = c.requires in
    omega (arith, cost-inside a.block.now p.0 a.r p.1)

pub returns : goal.returns
unfolding cost_of
returns c = ap (λ (k : ℕ). get_or c.args.block.now k 0) c.rule_at.ensures.0
