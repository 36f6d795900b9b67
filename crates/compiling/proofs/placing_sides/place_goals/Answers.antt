-- `compiling::placing_sides::place_goals` meets its contract.
use mathlib.Core.Path.{refl}
use Prim.Native.Nat.{◌*◌}
use native.Mathlib.Omega.{arith}
use borrow.Author.Count.{below_more}
use Rattle.basics.proofs.Parts.{outside-none, outside-then, outside-within}
use Rattle.words.specs.Sides.{goal_place}
use Rattle.compiling.proofs.RulesPlaced.{placed-as, goal-kept}
use borrow.Author.Rules.{rules}
use Rattle.compiling.proofs.placing_sides.place_goals.Goals as goal

pub loop-g-init : goal.loop-g-init
loop-g-init c =
    (search rules, outside-none (6 * goal_place 0) (6 * goal_place 8) c.args.code.now, λ k l. absurd (omega arith))

pub place_side-requires : goal.place_side-requires
place_side-requires c = omega (arith, c.loop-g.invariant.0, c.requires.headed.sizes.g_high)

pub loop-g-preserved : goal.loop-g-preserved
loop-g-preserved c =
    let few = c.requires.headed.sizes.g_high in
    let inv = c.loop-g.invariant in
    let g = c.loop-g.g in
    let (n, left, right) = c.goal.ensures in
    let p = placed-as n left right c.place_side.ensures in (
      inv.0,
      outside-then inv.1 (outside-within (6 * goal_place 0) (6 * goal_place 8) (omega arith) (omega arith) p.code),
      below_more _ _ (λ k l. goal-kept g k l p (inv.2 k l)) (p.tested refl),
    )

pub returns : goal.returns
returns c =
    let inv = c.loop-g.invariant in
    record { goal = λ g l. inv.2 g (omega arith); code = inv.1 }
