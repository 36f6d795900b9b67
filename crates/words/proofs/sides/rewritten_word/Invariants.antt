-- `words::sides::rewritten_word` meets its contract.
-- The loop's invariant: what is kept, the constants, and the first j moves; the digits of further moves are left.
use Rattle.std.proofs.Common.{◌≡◌, ℕ, ◌/◌, ◌^◌, List}
use lib.Bits.{bit_and, bit_or}
use Rattle.words.specs.Sides.{value_at, keep_at, from_at, to_at, join_moves}
use Rattle.words.proofs.sides.rewritten_word.Given as goal

-- what is kept, the constants and the first j moves are joined, and the digits of the others are left
abbrev pub Joined : List ℕ → ℕ → ℕ → ℕ → ℕ → ℕ → ℕ → Type 0
Joined code x word made from to j =
    (made ≡ join_moves (bit_or (bit_and word (keep_at code x)) (value_at code x)) word (from_at code x) (to_at code x)
    j)
    × (from ≡ from_at code x / 16 ^ j) × (to ≡ to_at code x / 16 ^ j)

abbrev pub invariant-loop : goal.invariant-loop
invariant-loop l = Joined l.code l.x l.word l.made l.from l.to l.counter
