-- `filling::filling::fill` meets its contract.
-- The sweeps are wanted, so the front has the least costs.
use mathlib.Core.Path.{refl}
use Rattle.filling.proofs.filling.fill.Goals as goal

pub returns : goal.returns
returns c = c.fill_front.ensures.1 refl
