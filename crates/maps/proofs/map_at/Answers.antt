-- `maps::map_at` meets its contract.
-- The map lies in what is lent, so that the product fits.
use mathlib.Core.Path.{ap}
use Prim.Native.Nat.{ℕ, ◌*◌}
use native.Mathlib.Omega.{arith}
use Rattle.maps.proofs.MapLaws.{map-within}
use Rattle.maps.proofs.map_at.Goals as goal

pub overflow_mul-result : goal.overflow_mul-result
overflow_mul-result c =
    let i = c.args.i in
    let e = ap (λ (w : ℕ). i * w) c.map_width.ensures in
    omega (arith, map-within c.args.block.now c.args.maps.now i c.requires.1)

pub returns : goal.returns
returns c =
    let i = c.args.i in
    let e = ap (λ (w : ℕ). i * w) c.map_width.ensures in
    (e, omega (arith, map-within c.args.block.now c.args.maps.now i c.requires.1))
