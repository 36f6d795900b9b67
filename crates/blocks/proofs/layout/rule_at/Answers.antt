-- `blocks::layout::rule_at` meets its contract.
-- The sum is the definition's, and the rules before it reach no further than 64 of 33 bytes.
use mathlib.Core.Path.{◌≡◌, ap}
use Prim.Native.Nat.{ℕ, ◌*◌}
use native.Mathlib.Omega.{arith}
use Rattle.blocks.specs.Layout.{rule_width, rule_at}
use Rattle.blocks.proofs.Offsets.{rules-reach}
use Rattle.blocks.proofs.layout.rule_at.Goals as goal
use Rattle.blocks.proofs.layout.rule_at.Goals.{After-rule_width}

-- the product is the definition's
product :
    (c : After-rule_width)
    → c.args.r * c.rule_width.result
    ≡ c.args.r * rule_width c.args.block.now
product c = ap (λ (w : ℕ). c.args.r * w) c.rule_width.ensures.0

pub overflow_mul-result : goal.overflow_mul-result
overflow_mul-result c =
    let a = c.args in
    let p = c.requires in
    omega (arith, product c, rules-reach a.block.now p.0 a.r p.1)

pub overflow_add-result-2 : goal.overflow_add-result-2
overflow_add-result-2 c =
    let a = c.args in
    let p = c.requires in
    omega (arith, product c, rules-reach a.block.now p.0 a.r p.1)

pub returns : goal.returns
unfolding rule_at
returns c =
    let a = c.args in
    let p = c.requires in
    omega (arith, product c, rules-reach a.block.now p.0 a.r p.1)
