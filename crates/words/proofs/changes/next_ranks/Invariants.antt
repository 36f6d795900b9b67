-- `words::changes::next_ranks` meets its contract.
-- The loop's invariant: the sum has the ranks and what the parts passed add, as words are summed.
use Rattle.std.proofs.Common.{◌≡◌, ◌+◌, ◌%◌}
use Rattle.words.specs.Changes.{word_span, part_place, added_to}
use Rattle.words.proofs.changes.next_ranks.Given as goal

abbrev pub invariant-loop : goal.invariant-loop
invariant-loop l =
    (l.part + 17 ≡ part_place l.r l.counter)
    × (l.sum ≡ (l.ranks + added_to l.changes l.r l.word l.counter) % word_span)
