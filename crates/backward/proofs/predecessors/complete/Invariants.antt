-- `backward::predecessors::complete` meets its contract.
-- The loop's invariant: the positions from `from` on that were passed hold the least labels, the others what they held.
use Rattle.std.proofs.Common.{◌≡◌, ℕ, ◌≤◌, ◌<◌, get_or}
use Rattle.blocks.specs.Sides.{left_terms, right_terms}
use Rattle.backward.specs.Choices.{choices_of, least_of}
use Rattle.backward.proofs.predecessors.complete.Given as goal

abbrev pub invariant-loop-i : goal.invariant-loop-i
invariant-loop-i l =
    ((k : ℕ) → k < l.from → get_or l.candidate k 0 ≡ get_or l.initial.candidate k 0)
    × ((k : ℕ) → l.from ≤ k → k < l.i → get_or l.candidate k 0
    ≡ least_of (choices_of (left_terms l.reversal.sides) (right_terms l.reversal.sides) l.reversal.state.now
    l.candidate k))
