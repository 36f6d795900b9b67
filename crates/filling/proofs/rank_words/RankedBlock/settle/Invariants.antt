-- `filling::rank_words::RankedBlock::settle` meets its contract.
-- A table that passes is left as it is. The loop's invariant: the table is good. The sum of its entries falls with
-- every pass but the last.
use Rattle.std.proofs.Common.{◌≡◌, length}
use Rattle.basics.specs.Lists.{total}
use Rattle.distances.specs.Filling.{Good}
use Rattle.tables.specs.Abstraction.{graph_of}
use Rattle.filling.proofs.rank_words.RankedBlock.settle.Given as goal

abbrev pub invariant-loop : goal.invariant-loop
invariant-loop l =
    (length l.table ≡ length l.initial.table) × Good (graph_of l.self.compiled.block.now) l.table

abbrev pub decreases-loop : goal.decreases-loop
decreases-loop l = total l.table
