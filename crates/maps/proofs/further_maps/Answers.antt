-- `maps::further_maps` meets its contract.
-- The quotient by the width of a map.
use mathlib.Core.Path.{ap}
use Prim.Native.Nat.{ℕ, ◌/◌}
use lib.ListN.{length}
use Rattle.maps.specs.Maps.{further_maps}
use Rattle.maps.proofs.further_maps.Goals as goal

pub returns : goal.returns
unfolding further_maps
returns c = ap (λ (w : ℕ). length c.args.maps.now / w) c.map_width.ensures
