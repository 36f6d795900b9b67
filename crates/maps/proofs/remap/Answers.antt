-- `maps::remap` meets its contract.
-- What is lent of the maps begins with further map i.
use Rattle.std.proofs.Common.{List, ℕ, ap, ◌∙◌}
use Rattle.basics.specs.Lists.{at_front}
use Rattle.blocks.specs.Remapping.{remapped}
use Rattle.maps.proofs.remap.Goals as goal

pub returns : goal.returns
returns c =
    c.remap.ensures
    ∙ ap (λ (m : List ℕ). at_front (remapped c.args.block.now m) c.args.out.now) c.further_map.ensures.0
