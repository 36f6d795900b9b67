-- `figures::further_figure` meets its contract.
-- The loop's invariant: the figure has the largest of the entries passed.
use Prim.Native.Nat.{◌-◌}
use Rattle.figures.proofs.FigureLaws.{Left}
use Rattle.figures.proofs.further_figure.Given as goal

abbrev pub invariant-loop : goal.invariant-loop
invariant-loop l = Left l.table l.cost l.ranks l.maps l.figure l.rest (l.maps - l.counter)
