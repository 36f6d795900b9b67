-- `compiling::placing_sides::make_side` meets its contract.
use mathlib.Core.Path.{◌≡◌, subst}
use Prim.Native.Nat.{ℕ}
use native.Mathlib.Omega.{arith}
use Rattle.blocks.specs.Sides.{left_terms, right_terms}
use Rattle.compiling.specs.PlacingSides.{Begun}
use Rattle.compiling.proofs.SidePlaced.{begun-none}
use Rattle.compiling.proofs.placing_sides.make_side.Goals as goal

pub loop-i-init : goal.loop-i-init
loop-i-init c = begun-none c.args.sides.now.n _ _ c.default-made.result c.default-made.ensures

pub loop-i-preserved : goal.loop-i-preserved
loop-i-preserved c = c.with_term-made.ensures

pub returns : goal.returns
returns c =
    let q = c.args.sides.now in
    let l = c.loop-i in
    let e : l.i ≡ q.n = omega arith in
    let left = left_terms q in
    let side = right_terms q in
    subst (λ (k : ℕ). Begun q.n left side l.made k) e l.invariant
