-- `filling::rank_words::RankedBlock::sweep` meets its contract.
-- The loop's invariant: the states below u are done.
use Rattle.std.proofs.Common.{◌≤◌}
use Rattle.blocks.specs.Layout.{abstract_states}
use Rattle.distances.proofs.Sweeping.{Sweeping}
use Rattle.tables.specs.Abstraction.{graph_of}
use Rattle.filling.proofs.rank_words.RankedBlock.sweep.Given as goal

abbrev pub invariant-loop-u : goal.invariant-loop-u
invariant-loop-u l =
    let b = l.self.compiled.block.now in
    (abstract_states b ≤ 16384) × Sweeping (graph_of b) l.initial.table l.table l.fell l.u
