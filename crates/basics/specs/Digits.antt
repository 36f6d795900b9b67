-- Numbers as digits, the first digit highest, with a base for each place: the number of a list of digits (`value_to`),
-- the digits of a number (`digits`), and how many numbers there are (`span`). Ranks of states are stated with these.
use Rattle.std.specs.Prelude.{ℕ, zero, suc, ◌+◌, ◌*◌, ◌/◌, ◌%◌, List, [], ◌∷◌, ◌++◌, get_or}

-- the number whose digits are the first n elements of s
abbrev pub value_to : (ℕ → ℕ) → List ℕ → ℕ → ℕ
value_to base s zero = 0
value_to base s (suc n) = value_to base s n * base n + get_or s n 0

-- the n digits of the number v
abbrev pub digits : (ℕ → ℕ) → ℕ → ℕ → List ℕ
digits base zero v = []
digits base (suc n) v = digits base n (v / base n) ++ (v % base n ∷ [])

-- how many numbers n digits write
abbrev pub span : (ℕ → ℕ) → ℕ → ℕ
span base zero = 1
span base (suc n) = span base n * base n
