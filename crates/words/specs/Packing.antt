-- A state as one word: its labels are digits in base 16, position 0 lowest (`pack`, `unpack`).
-- Rules and goals on words, and the search's path, are stated with these.
use Rattle.std.specs.Prelude.{ℕ, suc, ◌+◌, ◌*◌, ◌/◌, ◌%◌, ◌^◌, List, [], ◌∷◌}
use Rattle.basics.specs.Lists.{tabulate}

-- the digit at position i
unfoldable pub digit : ℕ → ℕ → ℕ
digit w i = w / 16 ^ i % 16

-- the digits at positions 2 * j and 2 * j + 1 as one byte, the first lowest
unfoldable pub digit_pair : ℕ → ℕ → ℕ
digit_pair w j = digit w (suc (2 * j)) * 16 + digit w (2 * j)

-- the word of a state
abbrev pub pack : List ℕ → ℕ
pack [] = 0
pack (x ∷ s) = pack s * 16 + x

-- the state of n labels that a word holds
unfoldable pub unpack : ℕ → ℕ → List ℕ
unpack n w = tabulate n (digit w)
