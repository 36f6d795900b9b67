-- `words::changes::ranks_word` meets its contract.
-- The loop's invariant: the weights of the labels passed together, as words are summed.
use Rattle.std.proofs.Common.{◌≡◌, ◌%◌, get_or}
use Rattle.basics.specs.Sums.{sum_to}
use Rattle.words.specs.Packing.{unpack}
use Rattle.words.specs.Changes.{word_span, label_weight}
use Rattle.words.proofs.changes.ranks_word.Given as goal

abbrev pub invariant-loop-p : goal.invariant-loop-p
invariant-loop-p l =
    l.ranks ≡ sum_to (λ k. label_weight l.changes k (get_or (unpack l.n l.word) k 0)) l.p % word_span
