-- `compiling::placing_sides::place_rule` meets its contract.
-- The cost has a place of its own.
use mathlib.Core.Path.{◌∙◌}
use Prim.Native.Nat.{◌<◌}
use native.Mathlib.Omega.{arith}
use Rattle.compiling.proofs.RulesPlaced.{sides-as, rule-placed}
use Rattle.compiling.proofs.placing_sides.place_rule.Goals as goal

pub place_sides-requires : goal.place_sides-requires
place_sides-requires c = omega (arith, c.requires.1, c.requires.0.headed.sizes.r_high)

pub returns : goal.returns
returns c =
    let b = c.args.block.now in
    let (n, left, right) = c.of.ensures in
    let few : c.args.r < 64 = omega (arith, c.requires.1, c.requires.0.headed.sizes.r_high) in
    rule-placed b c.args.r c.from.result few (omega arith) (sides-as n left right c.place_sides.ensures)
    (c.from.ensures ∙ c.cost.ensures) (omega arith)
