-- `candidates::reversed_rules::reverse_rules` meets its contract.
-- The loop's invariant: the rules passed are compiled backwards.
use Rattle.blocks.specs.Layout.{positions}
use Rattle.candidates.specs.Reversed.{Fronted}
use Rattle.candidates.proofs.reversed_rules.reverse_rules.Given as goal

abbrev pub invariant-loop-r : goal.invariant-loop-r
invariant-loop-r l = Fronted l.code l.r (positions l.block)
