-- `filling::filling::clear` meets its contract.
-- The loop's invariant: the words and the entries below u are written.
use Rattle.std.proofs.Common.{◌≡◌, ℕ, ◌≤◌, ◌<◌, length, get_or}
use Rattle.blocks.specs.Layout.{abstract_states}
use Rattle.words.specs.Ranking.{word_of}
use Rattle.distances.proofs.Writing.{Cleared}
use Rattle.tables.specs.Abstraction.{graph_of}
use Rattle.filling.proofs.filling.clear.Given as goal

abbrev pub invariant-loop-u : goal.invariant-loop-u
invariant-loop-u l =
    let b = l.compiled.block.now in record {
      few : abstract_states b ≤ 16384;
      long : length l.table ≡ abstract_states b;
      ranked : (w : ℕ) → w < l.u → get_or l.words w 0 ≡ word_of b w;
      cleared : Cleared (graph_of b) l.table l.u;
      next : l.word ≡ word_of b l.u;
    }
