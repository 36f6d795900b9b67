-- `runs::replay::replay_in` meets its contract.
-- The loop's invariant: the rules passed apply in turn, the state is where they lead, and the cost is theirs, at most
-- 255 for each.
use Rattle.std.proofs.Common.{◌≡◌, ◌*◌, ◌≤◌, true, take}
use Rattle.psvn.specs.Runs.{apply_in_turn, run, total_cost}
use Rattle.runs.proofs.replay.replay_in.Given as goal

abbrev pub invariant-loop-i : goal.invariant-loop-i
invariant-loop-i l =
    (l.cost ≤ 255 * l.i)
    × (l.cost ≡ total_cost l.block (take l.i l.list))
    × (l.state ≡ run l.block l.initial.state (take l.i l.list))
    × (apply_in_turn l.block l.initial.state (take l.i l.list) ≡ true)
