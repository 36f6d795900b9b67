-- `blocks::layout::abstract_states` meets its contract.
-- The power is in the limit, so that nothing is cut off.
use mathlib.Core.Path.{ap₂}
use Prim.Native.Nat.{◌^◌}
use native.Mathlib.Omega.{arith}
use Rattle.blocks.specs.Layout.{abstract_states}
use Rattle.blocks.proofs.layout.abstract_states.Goals as goal

pub returns : goal.returns
unfolding abstract_states
returns c =
    let few = c.requires.few in
    let e = ap₂ ◌^◌ c.abstracts.ensures.0 c.positions.ensures.0 in
    (omega arith, omega arith)
