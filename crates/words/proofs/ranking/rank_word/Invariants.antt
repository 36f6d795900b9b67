-- `words::ranking::rank_word` meets its contract.
-- The loop's invariant: the rest has the pairs from j on, and
-- the sum of the weights before them is at most 65535 for each.
use Rattle.std.proofs.Common.{◌≡◌, ◌+◌, ◌*◌, ◌/◌, ◌^◌, ◌≤◌}
use Rattle.words.specs.Ranking.{rank_pairs}
use Rattle.words.proofs.ranking.rank_word.Given as goal

abbrev pub invariant-loop-j : goal.invariant-loop-j
invariant-loop-j l =
    (l.j ≤ (l.n + 1) / 2) × (l.rest ≡ l.word / 256 ^ l.j) × (l.rank ≡ rank_pairs l.weights l.j l.word)
    × (l.rank ≤ 65535 * l.j)
