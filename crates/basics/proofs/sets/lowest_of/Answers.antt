-- `basics::sets::lowest_of` meets its contract.
-- A set that is not empty has a lowest number, below 64.
use mathlib.Core.Path.{refl}
use native.Mathlib.Omega.{arith}
use lib.Count.{trailing_le}
use Rattle.basics.proofs.SetLaws.{lowest-in}
use Rattle.basics.proofs.sets.lowest_of.Goals as goal

pub overflow_cast-result : goal.overflow_cast-result
overflow_cast-result c = omega (arith, trailing_le 64 c.args.set)

pub returns : goal.returns
returns c = (refl, (lowest-in 64 c.args.set (omega arith) (omega arith)).1)
