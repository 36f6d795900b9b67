-- `blocks::layout::goal_at` meets its contract.
-- The sum is the definition's, and the goals before it reach no further than 8 of 16 bytes.
use mathlib.Core.Path.{◌≡◌, ap}
use Prim.Native.Nat.{ℕ, ◌*◌}
use native.Mathlib.Omega.{arith}
use Rattle.blocks.specs.Layout.{positions, rule_at, goal_at}
use Rattle.blocks.proofs.Offsets.{goals-reach}
use Rattle.blocks.proofs.layout.goal_at.Goals as goal
use Rattle.blocks.proofs.layout.goal_at.Goals.{After-positions}

-- the product is the definition's
product :
    (c : After-positions)
    → c.args.g * c.positions.result
    ≡ c.args.g * positions c.args.block.now
product c = ap (λ (n : ℕ). c.args.g * n) c.positions.ensures.0

pub overflow_mul-result : goal.overflow_mul-result
overflow_mul-result c =
    let a = c.args in
    let p = c.requires in
    omega (arith, product c, goals-reach a.block.now p.0 a.g p.1)

pub overflow_add-result : goal.overflow_add-result
overflow_add-result c =
    let a = c.args in
    let p = c.requires in
    omega (arith, product c, goals-reach a.block.now p.0 a.g p.1)

pub returns : goal.returns
unfolding goal_at
returns c =
    let a = c.args in
    let p = c.requires in
    let e = ap (rule_at a.block.now) c.rules.ensures.0 in
    omega (arith, e, product c, goals-reach a.block.now p.0 a.g p.1)
