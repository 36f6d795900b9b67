-- `basics::copy` meets its contract.
-- The loop's invariant: the places passed hold the bytes of `from`, the others what they held.
use Rattle.std.proofs.Common.{◌≡◌, take}
use lib.Seq.{sets}
use Rattle.basics.proofs.copy.Given as goal

abbrev pub invariant-loop-i : goal.invariant-loop-i
invariant-loop-i l = l.to ≡ sets l.initial.to 0 (take l.i l.from)
