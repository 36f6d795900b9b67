-- `search::running::run_rounds` meets its contract.
use native.Mathlib.Omega.{arith}
use Rattle.search.proofs.Runs.{left-whole, left-none, hit-small, left-hit, left-stop, left-on, left-higher}
use Rattle.search.proofs.running.run_rounds.Goals as goal

pub loop-threshold-init : goal.loop-threshold-init
loop-threshold-init c = left-whole _ _ _ _ _ _ c.requires.0 c.requires.1

pub round-requires : goal.round-requires
round-requires c = (c.loop-threshold.invariant.begun, omega (arith, c.loop-threshold-test.true))

pub found-requires : goal.found-requires
found-requires c =
    let k = c.loop-threshold.invariant in
    let small = hit-small k (omega arith) (omega arith) c.round.ensures c.in-Hit.is in
    let arrays = k.begun.given.ready.compiled in (
      small.0,
      small.1,
      omega (arith, arrays.counted.goals_told, arrays.valid.sized.headed.sizes.g_high),
    )

pub returns-in-Hit : goal.returns-in-Hit
returns-in-Hit c =
    rw c.found.ensures
    (left-hit c.loop-threshold.invariant (omega arith) (omega arith) c.round.ensures c.in-Hit.is)

pub returns-in-Stop : goal.returns-in-Stop
returns-in-Stop c = left-stop c.loop-threshold.invariant (omega arith) (omega arith) c.round.ensures c.in-Stop.is

pub loop-threshold-smaller : goal.loop-threshold-smaller
loop-threshold-smaller c =
    omega (
      arith,
      c.loop-threshold-test.true,
      left-higher c.loop-threshold.invariant (omega arith) (omega arith) c.round.ensures c.in-On.is,
    )

pub loop-threshold-preserved : goal.loop-threshold-preserved
loop-threshold-preserved c =
    left-on c.loop-threshold.invariant (omega arith) (omega arith) c.round.ensures c.in-On.is

pub returns : goal.returns
returns c = left-none c.loop-threshold.invariant (omega arith)
