-- `search::scanning::next_due` meets its contract.
-- The loop's invariant: what is left from some rule on, with the tally that is carried, is what is left from the first
-- rule on, and the set has the rules from that one on that are still to be looked at.
use Prim.Native.Nat.{◌≤◌, ◌<◌}
use Rattle.search.specs.Parts.{Here}
use Rattle.search.proofs.Rests.{Come}
use Rattle.search.proofs.scanning.next_due.Given as goal

abbrev pub invariant-loop-left : goal.invariant-loop-left
invariant-loop-left l =
    record {
      fewer : l.left ≤ l.rest;
      here : Here l.code l.changes l.run l.depth;
      room : l.depth < l.run.steps;
      come : Come l.code l.changes l.table l.initial.run l.depth l.rest l.run l.left;
    }

abbrev pub decreases-loop-left : goal.decreases-loop-left
decreases-loop-left l = l.left
