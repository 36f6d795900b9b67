-- `words::matching::variables_match_word` meets its contract.
-- The loop's invariant: the first j moves agree, and the digits of further ones are left. As the constants agree, the
-- moves decide.
use Rattle.std.proofs.Common.{◌≡◌, ℕ, ◌/◌, ◌^◌, ◌<◌, true, List}
use Rattle.words.specs.Sides.{from_at, to_at, move_agrees}
use Rattle.words.proofs.matching.variables_match_word.Given as goal

-- the first j moves agree, and the digits of the others are left
abbrev pub Agreed : List ℕ → ℕ → ℕ → ℕ → ℕ → ℕ → Type 0
Agreed code x word from to j =
    (from ≡ from_at code x / 16 ^ j) × (to ≡ to_at code x / 16 ^ j)
    × ((k : ℕ) → k < j → move_agrees word (from_at code x) (to_at code x) k ≡ true)

abbrev pub invariant-loop : goal.invariant-loop
invariant-loop l = Agreed l.code l.x l.word l.from l.to l.counter
