-- `compiling::placing_weights::place_weights` meets its contract.
-- The weights of single labels go into an array of zeros, and those of pairs are their sums.
use Rattle.compiling.proofs.WeightsPlaced.{zeros, pairs-weighted}
use Rattle.compiling.proofs.placing_weights.place_weights.Goals as goal

pub place_singles-requires : goal.place_singles-requires
place_singles-requires c = (c.requires, zeros 256)

pub returns : goal.returns
returns c =
    let pairs = rw c.positions.ensures.0 at c.place_pairs.ensures in
    pairs-weighted c.requires.sized.headed c.place_singles.ensures pairs
