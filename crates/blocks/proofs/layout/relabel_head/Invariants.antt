-- `blocks::layout::relabel_head` meets its contract.
-- The loop's invariant: the map bytes passed are written behind the head.
use Rattle.std.proofs.Common.{◌≡◌}
use lib.Seq.{sets}
use Rattle.basics.specs.Lists.{tabulate}
use Rattle.blocks.proofs.layout.relabel_head.Given as goal

abbrev pub invariant-loop-x : goal.invariant-loop-x
invariant-loop-x l = l.out ≡ sets l.initial.out 5 (tabulate l.x (λ y. y))
