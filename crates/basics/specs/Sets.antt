-- A set of numbers below 64 as one word of 64 bits: r is in it where bit r is 1 (`member`); the set of those that
-- pass a test (`Passing`); its lowest number (`lowest`), and the set without that (`without_lowest`). Sets of rules
-- are told by these, and looked at in rising order.
use Rattle.std.specs.Prelude.{◌≡◌, Bool, ◌&&◌, ℕ, zero, suc, ◌-◌, ◌/◌, ◌%◌, eqb, ltb}
use Rattle.std.specs.Int.Bits.{bit_and}
use Rattle.std.specs.Int.Count.{count_trailing_zeros}

-- r is in the set s
unfoldable pub member : ℕ → ℕ → Bool
member s zero = eqb (s % 2) 1
member s (suc r) = member (s / 2) r

-- s has the numbers below n that pass a test
abbrev pub Passing : (ℕ → Bool) → ℕ → ℕ → Type 0
Passing f n s = (r : ℕ) → member s r ≡ (ltb r n && f r)

-- the lowest number of a set, 64 where it has none
abbrev pub lowest : ℕ → ℕ
lowest s = count_trailing_zeros 64 s

-- the other numbers of a set that has one
abbrev pub without_lowest : ℕ → ℕ
without_lowest s = bit_and s (s - 1)
