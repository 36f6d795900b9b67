-- Text as lines (`lines_of`), and a line as bytes: whether it is pairs of digits with a line feed (`line_ok`), the
-- bytes of its pairs (`line_bytes`), and the line that bytes are written as (`line_of`).
-- The reader and all that `par` prints are stated with these.
use Rattle.std.specs.Prelude.{ℕ, ◌+◌, ◌-◌, ◌*◌, ◌/◌, ◌%◌, Bool, true, false, cond, ◌&&◌, ◌||◌, List, [], ◌∷◌, ltb, eqb}
use Rattle.std.specs.Prelude.{Option, Some, None}
use Rattle.blocks.specs.Validity.{within}

-- hexadecimal 0A
abbrev pub line_feed : ℕ
line_feed = 10

-- the characters 0 to 9 are 48 to 57, A to F are 65 to 70
unfoldable pub is_digit : ℕ → Bool
is_digit c = within 48 c 57 || within 65 c 70

-- the value of a digit; 0 for any other character
unfoldable pub digit_value : ℕ → ℕ
digit_value c = cond (within 48 c 57) (c - 48) (cond (within 65 c 70) (c - 55) 0)

-- a digit by its value; none for any other character
abbrev pub digit : ℕ → Option ℕ
digit c = cond (is_digit c) (Some (digit_value c)) None

-- the digit of a value
unfoldable pub digit_of : ℕ → ℕ
digit_of v = cond (ltb v 10) (48 + v) (55 + v)

-- a character in front of lines: a line feed is a line of its own, any other character belongs to the first line
abbrev pub in_front : Bool → ℕ → List (List ℕ) → List (List ℕ)
in_front true c ls = (c ∷ []) ∷ ls
in_front false c [] = (c ∷ []) ∷ []
in_front false c (l ∷ ls) = (c ∷ l) ∷ ls

-- the lines of a text, each with the line feed that ends it; the last one may lack it
abbrev pub lines_of : List ℕ → List (List ℕ)
lines_of [] = []
lines_of (c ∷ x) = in_front (eqb c line_feed) c (lines_of x)

-- "A line is pairs of digits 0 to 9 and A to F with a line feed"
abbrev pub line_ok : List ℕ → Bool
line_ok [] = false
line_ok (c ∷ []) = eqb c line_feed
line_ok (c ∷ d ∷ l) = (is_digit c && is_digit d) && line_ok l

-- the bytes of a line: each pair of digits is one, the higher digit first
abbrev pub line_bytes : List ℕ → List ℕ
line_bytes [] = []
line_bytes (c ∷ []) = []
line_bytes (c ∷ d ∷ l) = (16 * digit_value c + digit_value d) ∷ line_bytes l

-- the line that bytes are written as
abbrev pub line_of : List ℕ → List ℕ
line_of [] = line_feed ∷ []
line_of (b ∷ bs) = digit_of (b / 16) ∷ digit_of (b % 16) ∷ line_of bs
