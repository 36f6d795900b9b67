-- Digits by their ranges (`decimal`, `letter`), and what is none (`below`, `between`, `above`); the digit of a value
-- has that value (`digit-back`).
-- The functions on single characters, and that what is written can be read, rest on these.
use mathlib.Core.Path.{◌≡◌, sym}
use mathlib.Core.Logic.{◌⊎◌, inl, inr, ⊎_elim}
use mathlib.Core.Bool.{true, false}
use Rattle.std.specs.Prelude.{Some, None}
use Rattle.std.specs.Option.{unwrap_or}
use Prim.Native.Nat.{ℕ, ◌+◌, ◌-◌, ◌≤◌, ◌<◌}
use native.Mathlib.Omega.{arith}
use borrow.Author.Tests.{lt-ltb, le-ltb, le-leb, lt-leb}
use Rattle.basics.proofs.Comparing.{below?}
use Rattle.frames.specs.Lines.{is_digit, digit_value, digit, digit_of}

-- c is a digit of this value
pub record Digit (c v : ℕ) : Type 0 where
  pub is : is_digit c ≡ true
  pub value : digit_value c ≡ v

-- c is no digit
pub record NoDigit (c : ℕ) : Type 0 where
  pub is : is_digit c ≡ false
  pub value : digit_value c ≡ 0

module _ (c : ℕ) where
  pub decimal : 48 ≤ c → c ≤ 57 → Digit c (c - 48)
  unfolding is_digit digit_value
  decimal a b = record { is = rw (le-leb 48 c a, le-leb c 57 b); value = rw (le-leb 48 c a, le-leb c 57 b) }

  pub letter : 65 ≤ c → c ≤ 70 → Digit c (c - 65 + 10)
  unfolding is_digit digit_value
  letter a b =
      let p = le-leb 48 c (omega arith) in
      let q = lt-leb c 57 (omega arith) in
      let same : c - 55 ≡ c - 65 + 10 = omega arith in
      record { is = rw (p, q, le-leb 65 c a, le-leb c 70 b); value = rw (p, q, le-leb 65 c a, le-leb c 70 b) same }

  pub below : c < 48 → NoDigit c
  unfolding is_digit digit_value
  below a =
      let p = lt-leb 48 c a in
      let q = lt-leb 65 c (omega arith) in
      record { is = rw (p, q); value = rw (p, q) }

  pub between : 57 < c → c < 65 → NoDigit c
  unfolding is_digit digit_value
  between a b =
      let p = le-leb 48 c (omega arith) in
      let q = lt-leb c 57 a in
      let o = lt-leb 65 c b in
      record { is = rw (p, q, o); value = rw (p, q, o) }

  pub above : 70 < c → NoDigit c
  unfolding is_digit digit_value
  above a =
      let p = le-leb 48 c (omega arith) in
      let q = lt-leb c 57 (omega arith) in
      let o = le-leb 65 c (omega arith) in
      let z = lt-leb c 70 a in
      record { is = rw (p, q, o, z); value = rw (p, q, o, z) }

-- what is told of a character
pub digit-some : (c v : ℕ) → Digit c v → digit c ≡ Some v
digit-some c v d = rw (d.is, d.value)

pub digit-none : (c : ℕ) → NoDigit c → digit c ≡ None
digit-none c n = rw n.is

-- a character is a digit of a value below 16, or none
digit_or_none : (c : ℕ) → ((v : ℕ) × (v ≤ 15) × Digit c v) ⊎ NoDigit c
digit_or_none c =
    ⊎_elim (λ h. inr (below c h))
    (λ a.
    ⊎_elim (λ h. inl (c - 48, omega arith, decimal c a (omega arith)))
    (λ b.
    ⊎_elim (λ h. inr (between c (omega arith) h))
    (λ d.
    ⊎_elim (λ h. inl (c - 65 + 10, omega arith, letter c d (omega arith))) (λ h. inr (above c (omega arith)))
    (below? c 71))
    (below? c 65))
    (below? c 58))
    (below? c 48)

-- with 0 for any other character, this is its value
pub digit-or-0 : (c : ℕ) → (unwrap_or (digit c) 0 ≡ digit_value c) × (digit_value c ≤ 15)
digit-or-0 c =
    ⊎_elim
    (λ d. (rw (digit-some c _ d.2) (sym d.2.value), omega (arith, d.1, d.2.value)))
    (λ n. (rw (digit-none c n) (sym n.value), omega (arith, n.value))) (digit_or_none c)

-- the digit of a value
pub low_digit : (v : ℕ) → v < 10 → digit_of v ≡ 48 + v
unfolding digit_of
low_digit v l = rw (lt-ltb v 10 l)

pub high_digit : (v : ℕ) → 10 ≤ v → digit_of v ≡ 55 + v
unfolding digit_of
high_digit v l = rw (le-ltb v 10 l)

pub digit-back : (v : ℕ) → v < 16 → Digit (digit_of v) v
digit-back v l = ⊎_elim low high (below? v 10)
  where
    low : v < 10 → Digit (digit_of v) v
    low a =
        let d = decimal (48 + v) (omega arith) (omega arith) in
        rw (low_digit v a) (record { is = d.is; value = omega (arith, d.value) })

    high : 10 ≤ v → Digit (digit_of v) v
    high a =
        let d = letter (55 + v) (omega arith) (omega arith) in
        rw (high_digit v a) (record { is = d.is; value = omega (arith, d.value) })
