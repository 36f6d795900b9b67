-- `basics::sets::without_lowest` meets its contract.
-- The set is the definition's, and one member less makes the word smaller.
use mathlib.Core.Path.{refl}
use native.Mathlib.Omega.{arith}
use Rattle.basics.proofs.SetLaws.{without-less}
use Rattle.basics.proofs.sets.without_lowest.Goals as goal

pub returns : goal.returns
returns c = (refl, without-less c.args.set (omega arith))
