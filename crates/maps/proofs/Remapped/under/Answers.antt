-- `maps::Remapped::under` meets its contract.
-- The front of the buffer is the exercise under the map.
use Rattle.std.proofs.Common.{suc, arith}
use Rattle.maps.proofs.MapLaws.{exercise-part, exercise-fits}
use Rattle.maps.proofs.Remapped.under.Goals as goal

pub invariant_of-result : goal.invariant_of-result
invariant_of-result c =
    omega (arith, exercise-fits c.args.block.now c.args.maps.now (suc c.args.i) _ _ c.remap.ensures)

pub returns : goal.returns
returns c = exercise-part c.args.block.now c.args.maps.now (suc c.args.i) _ _ c.remap.ensures
