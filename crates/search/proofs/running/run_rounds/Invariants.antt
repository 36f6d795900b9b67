-- `search::running::run_rounds` meets its contract.
-- What is left of the rounds equals the whole; each next threshold is higher, up to the cost limit.
use Prim.Native.Nat.{suc, ◌-◌}
use Rattle.search.specs.Run.{state_at}
use Rattle.search.proofs.Runs.{Left}
use Rattle.search.proofs.running.run_rounds.Given as goal

abbrev pub invariant-loop-threshold : goal.invariant-loop-threshold
invariant-loop-threshold l =
    Left l.code l.changes l.table l.initial.run.steps l.cost l.initial.run.allowance l.first
    (state_at l.initial.run 0) l.run l.threshold

abbrev pub decreases-loop-threshold : goal.decreases-loop-threshold
decreases-loop-threshold l = suc l.cost - l.threshold
