-- `frames::digits::digit_of` meets its contract.
-- The test says which of the two ranges the digit is in.
use native.Mathlib.Omega.{arith}
use Rattle.frames.proofs.DigitLaws.{low_digit, high_digit}
use Rattle.frames.proofs.digits.digit_of.Goals as goal

pub returns-then-value-lt10 : goal.returns-then-value-lt10
returns-then-value-lt10 c = omega (arith, low_digit c.args.value (omega arith))

pub returns-else-value-lt10 : goal.returns-else-value-lt10
returns-else-value-lt10 c = omega (arith, high_digit c.args.value (omega arith))
