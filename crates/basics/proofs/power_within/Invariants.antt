-- `basics::power_within` meets its contract.
-- The loop's invariant: the power of the turns so far, at most one more than `most`, so that a further factor cannot
-- wrap.
use mathlib.Core.Path.{◌≡◌}
use Prim.Native.Nat.{◌≤◌, ◌+◌, ◌^◌}
use Rattle.basics.proofs.power_within.Given as goal

abbrev pub invariant-loop-i : goal.invariant-loop-i
invariant-loop-i l = (l.power ≡ l.k ^ l.i) × (l.power ≤ l.most + 1)
