-- `frames::lines::pair_byte` meets its contract.
-- Each digit, or 0 for what is none, is below 16.
use mathlib.Core.Path.{◌≡◌, ap, ◌∙◌}
use Prim.Native.Nat.{ℕ, ◌≤◌}
use native.Mathlib.Omega.{arith}
use Rattle.std.proofs.Common.{Option}
use Rattle.std.specs.Option.{unwrap_or}
use Rattle.frames.specs.Lines.{digit, digit_value}
use Rattle.frames.proofs.DigitLaws.{digit-or-0}
use Rattle.frames.proofs.lines.pair_byte.Goals as goal

-- the value of one character
value : (c n : ℕ) (d : Option ℕ) → d ≡ digit c → n ≡ unwrap_or d 0 → (n ≡ digit_value c) × (digit_value c ≤ 15)
value c n d e f = let v = digit-or-0 c in (f ∙ ap (λ (o : Option ℕ). unwrap_or o 0) e ∙ v.0, v.1)

pub overflow_mul-result : goal.overflow_mul-result
overflow_mul-result c = omega (arith, value _ _ _ c.digit.ensures c.unwrap_or.ensures)

pub overflow_add-result : goal.overflow_add-result
overflow_add-result c =
    omega (arith, value _ _ _ c.digit.ensures c.unwrap_or.ensures, value _ _ _ c.digit-2.ensures c.unwrap_or-2.ensures)

pub returns : goal.returns
returns c =
    omega (arith, value _ _ _ c.digit.ensures c.unwrap_or.ensures, value _ _ _ c.digit-2.ensures c.unwrap_or-2.ensures)
