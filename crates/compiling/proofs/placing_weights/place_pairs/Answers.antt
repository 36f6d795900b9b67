-- `compiling::placing_weights::place_pairs` meets its contract.
use mathlib.Core.Path.{refl}
use Prim.Native.Nat.{◌+◌, ◌*◌, ◌/◌, ◌%◌}
use native.Mathlib.Omega.{arith}
use Rattle.basics.proofs.Lists.{set_more}
use Rattle.compiling.specs.PlacingWeights.{pair_weight}
use Rattle.compiling.proofs.placing_weights.place_pairs.Goals as goal

pub loop-k-init : goal.loop-k-init
loop-k-init c = (omega arith, c.requires.0, λ j l. absurd (omega arith))

pub overflow_add-weights-in-loop-k-3 : goal.overflow_add-weights-in-loop-k-3
overflow_add-weights-in-loop-k-3 c =
    let low = c.requires.1 in
    let k = c.loop-k.k in
    omega (arith, low (32 * (k / 256) + k % 16), low (32 * (k / 256) + 16 + k / 16 % 16))

pub loop-k-preserved : goal.loop-k-preserved
loop-k-preserved c =
    let l = c.loop-k in
    let pair = pair_weight c.args.singles.now in (
      omega (arith, l.invariant.0),
      l.invariant.1,
      set_more pair l.weights l.k (pair l.k) l.invariant.2 (omega arith) refl,
    )

pub returns : goal.returns
returns c = record { pair = λ k l. c.loop-k.invariant.2 k (omega arith) }
