-- `preparing::weights::place_map` meets its contract.
-- The weights of single labels go into an array of zeros, and then in front of those that are packed.
use Rattle.compiling.proofs.WeightsPlaced.{zeros}
use Rattle.preparing.proofs.WeightLaws.{map-placed}
use Rattle.preparing.proofs.weights.place_map.Goals as goal

pub place_singles-requires : goal.place_singles-requires
place_singles-requires c = (c.requires.0, zeros 256)

pub add_map-requires : goal.add_map-requires
add_map-requires c =
    (c.place_singles.ensures.low, c.requires.1)

pub returns : goal.returns
returns c =
    map-placed c.requires.0 c.place_singles.ensures c.add_map.ensures
