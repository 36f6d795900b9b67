-- `filling::rank_words::next_word` meets its contract.
-- The loop's invariant: the labels behind the first i begin again.
use mathlib.Core.Path.{◌≡◌}
use Prim.Native.Nat.{◌≤◌}
use Rattle.blocks.specs.Layout.{abstracts}
use Rattle.filling.proofs.NextWords.{Counting}
use Rattle.filling.proofs.rank_words.next_word.Given as goal

abbrev pub invariant-loop-i : goal.invariant-loop-i
invariant-loop-i l = (l.labels ≡ abstracts l.block) × (l.i ≤ 16) × Counting l.block l.u l.next l.i
