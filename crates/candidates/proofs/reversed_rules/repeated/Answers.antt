-- `candidates::reversed_rules::repeated` meets its contract.
-- The largest label at all sixteen positions is the largest word.
use native.Mathlib.Nat.{mul-le-mul}
use native.Mathlib.Omega.{arith}
use Rattle.candidates.proofs.reversed_rules.repeated.Goals as goal

pub overflow_mul-result : goal.overflow_mul-result
overflow_mul-result c = record { fits = omega (arith, mul-le-mul c.requires.0 c.requires.1) }
