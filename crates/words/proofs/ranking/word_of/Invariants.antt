-- `words::ranking::word_of` meets its contract.
-- The loop's invariant: the word has the digits from i on, and the rest those before.
use Rattle.std.proofs.Common.{◌≡◌, ◌+◌, ◌-◌, ◌*◌, ◌^◌, ◌<◌, ◌≤◌}
use Rattle.basics.specs.Digits.{digits}
use Rattle.blocks.specs.Layout.{positions, abstract_count}
use Rattle.words.specs.Packing.{pack}
use Rattle.words.specs.Ranking.{word_of}
use Rattle.words.proofs.ranking.word_of.Given as goal

abbrev pub invariant-loop-i : goal.invariant-loop-i
invariant-loop-i l =
    (l.i ≤ positions l.block) × (l.word < 16 ^ (positions l.block - l.i))
    × (word_of l.block l.k ≡ l.word * 16 ^ l.i + pack (digits (abstract_count l.block) l.i l.rest))
