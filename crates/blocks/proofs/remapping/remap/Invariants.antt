-- `blocks::remapping::remap` meets its contract.
-- The loop's invariant: the map bytes passed are replaced in what the buffer held where the loop began.
use Rattle.std.proofs.Common.{◌≡◌, suc, ◌+◌, get_or}
use Rattle.basics.specs.Placing.{placed}
use Rattle.blocks.specs.Layout.{head_length}
use Rattle.blocks.proofs.remapping.remap.Given as goal

abbrev pub invariant-loop-x : goal.invariant-loop-x
invariant-loop-x l = l.out ≡ placed l.initial.out (λ y. head_length + y) (λ y. get_or l.map (suc y) 0) l.x
