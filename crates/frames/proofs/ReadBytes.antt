-- What is read from digits are bytes: of a line (`line_small`) and of an exercise's lines (`block-small`).
-- That costs read from text are bytes, and that a query's limits fit four bytes, rest on it.
use mathlib.Core.Logic.{⊎_elim}
use mathlib.Core.List.{List, [], ◌∷◌, flat_map}
use Prim.Native.Nat.{ℕ, zero, suc, ◌≤◌, ◌<◌}
use native.Mathlib.Omega.{arith}
use Rattle.basics.specs.Lists.{Bytes}
use Rattle.basics.proofs.Comparing.{below?}
use Rattle.basics.proofs.ByteLists.{bytes-append}
use Rattle.frames.specs.Lines.{digit_value, line_bytes}
use Rattle.frames.specs.Reading.{block_of}
use Rattle.frames.proofs.DigitLaws.{decimal, letter, below, between, above}

-- a digit's value is below 16
digit-small : (c : ℕ) → digit_value c ≤ 15
digit-small c = ⊎_elim (λ l. omega (arith, (below c l).value)) from-48 (below? c 48)
  where
    from-65 : 65 ≤ c → digit_value c ≤ 15
    from-65 a =
        ⊎_elim (λ l. let h : c ≤ 70 = omega arith in omega (arith, (letter c a h).value))
        (λ b. let h : 70 < c = omega arith in omega (arith, (above c h).value)) (below? c 71)

    from-58 : 58 ≤ c → digit_value c ≤ 15
    from-58 a =
        ⊎_elim (λ l. let h : 57 < c = omega arith in omega (arith, (between c h l).value)) from-65 (below? c 65)

    from-48 : 48 ≤ c → digit_value c ≤ 15
    from-48 a =
        ⊎_elim (λ l. let h : c ≤ 57 = omega arith in omega (arith, (decimal c a h).value)) from-58 (below? c 58)

pub line_small : (l : List ℕ) → Bytes (line_bytes l)
line_small [] i = omega arith
line_small (c ∷ []) i = omega arith
line_small (c ∷ d ∷ l) zero = omega (arith, digit-small c, digit-small d)
line_small (c ∷ d ∷ l) (suc i) = line_small l i

pub block-small : (ls : List (List ℕ)) → Bytes (block_of ls)
unfolding flat_map
block-small [] = λ i. omega arith
block-small (l ∷ ls) = bytes-append (line_bytes l) (block_of ls) (line_small l) (block-small ls)
