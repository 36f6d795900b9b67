-- `par_openings::opening::lines_end` meets its contract.
-- The loop's invariant: the lines that are left end where all of them do.
use mathlib.Core.Path.{◌≡◌}
use Prim.Native.Nat.{◌+◌, ◌-◌}
use lib.ListN.{drop}
use Rattle.frames.proofs.LinePlaces.{length_to}
use Rattle.par_openings.proofs.opening.lines_end.Given as goal

abbrev pub invariant-loop : goal.invariant-loop
invariant-loop l =
    l.at + length_to (l.count - l.counter) (drop l.at l.input) ≡ l.from + length_to l.count (drop l.from l.input)
