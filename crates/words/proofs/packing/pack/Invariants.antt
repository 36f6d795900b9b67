-- `words::packing::pack` meets its contract.
-- The loop's invariant: the word is that of the labels taken, which stand behind the rest.
use Rattle.std.proofs.Common.{◌≡◌, ℕ, List, ◌++◌}
use Rattle.words.specs.Packing as packing
use Rattle.words.proofs.packing.pack.Given as goal

abbrev pub invariant-loop-label : goal.invariant-loop-label
invariant-loop-label l =
    (tail : List ℕ) × (l.state ≡ l.label-iterator.iter.rest.now ++ tail) × (l.word ≡ packing.pack tail)
