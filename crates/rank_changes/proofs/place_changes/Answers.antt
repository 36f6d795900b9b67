-- `rank_changes::place_changes` meets its contract.
-- The changes of the rules leave what stands in front of them.
use Rattle.std.proofs.Common.{◌∙◌, arith}
use Rattle.rank_changes.proofs.RankAfter.{changed, singles-kept}
use Rattle.rank_changes.proofs.place_changes.Goals as goal

pub returns : goal.returns
returns c =
    let copied = c.copy_singles.ensures in
    let placed = c.place_rule_changes.ensures in
    let maps = placed.front 256 (omega arith) ∙ copied.changes.behind 256 (omega arith) in
    record {
      changed = changed c.args.block.now c.requires copied placed;
      by_index =
          (singles-kept copied placed, maps);
    }
