-- `blocks::layout::abstract_label` meets its contract.
-- The map of every position stands behind the head.
use Rattle.blocks.specs.Layout.{label_count, map_byte, map_at}
use Rattle.blocks.proofs.Offsets.{map-inside}
use Rattle.blocks.proofs.layout.abstract_label.Goals as goal

pub mapped-requires : goal.mapped-requires
unfolding label_count
mapped-requires c =
    let a = c.args in
    let p = c.requires in
    map-inside a.block.now p.0 a.label.0 p.2

pub returns : goal.returns
unfolding map_byte map_at
returns c = c.mapped.ensures
