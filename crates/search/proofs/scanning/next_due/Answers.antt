-- `search::scanning::next_due` meets its contract.
use mathlib.Core.Path.{◌≡◌, sym}
use native.Mathlib.Omega.{arith}
use Rattle.search.proofs.RunStateLaws.{kept-outside}
use Rattle.search.proofs.Scans.{here-kept, passed-found}
use Rattle.search.proofs.Rests.{come-first, come-low, come-lowest, come-own, come-on, come-over}
use Rattle.search.proofs.scanning.next_due.Goals as goal

pub loop-left-init : goal.loop-left-init
loop-left-init c =
    record {
      fewer = omega arith;
      here = c.requires.here.0;
      room = c.requires.here.1;
      come = come-first _ _ _ _ _ _ c.requires.rest;
    }

pub try_rule-requires : goal.try_rule-requires
try_rule-requires c =
    let l = c.loop-left in
    let low = come-low l.invariant.come (omega (arith, c.loop-left-test.true)) (omega arith) in
    record { here = (l.invariant.here, l.invariant.room); rule_bound = rw c.lowest_of.ensures.0 low }

pub returns-then-try_rule : goal.returns-then-try_rule
returns-then-try_rule c =
    let k = c.loop-left.invariant in
    let found = rw (c.if-try_rule.true, c.lowest_of.ensures.0) at c.try_rule.ensures in
    let same = (kept-outside c.args.depth k.come.passed.carried).states c.args.depth (omega arith) in
    record {
      fewer = k.fewer;
      none_left = λ z. absurd (omega (arith, c.loop-left-test.true));
      some_left = λ z. (
        passed-found (come-lowest k.come z (omega arith)) found,
        rw (sym same) (come-own k.come z (omega arith)),
      );
    }

pub loop-left-smaller : goal.loop-left-smaller
loop-left-smaller c = c.without_lowest-left.ensures.1

pub loop-left-preserved : goal.loop-left-preserved
loop-left-preserved c =
    let l = c.loop-left in
    let k = l.invariant in
    let passed = rw (c.if-try_rule.false, c.lowest_of.ensures.0) at c.try_rule.ensures in
    let kept = kept-outside c.args.depth passed.carried in
    let same = kept.states c.args.depth (omega arith) in
    record {
      fewer = omega (arith, k.fewer, c.without_lowest-left.ensures.1);
      here = here-kept k.here kept;
      room = rw kept.steps_kept k.room;
      come = rw c.without_lowest-left.ensures.0
          (come-on k.come (omega (arith, c.loop-left-test.true)) (omega arith) c.try_rule.new.run same passed);
    }

pub returns : goal.returns
returns c =
    let e : c.loop-left.left ≡ 0 = omega (arith, c.loop-left-test.false) in
    record {
      fewer = c.loop-left.invariant.fewer;
      none_left = λ z. come-over c.loop-left.invariant.come z;
      some_left = λ z. absurd (omega (arith, c.loop-left-test.false));
    }
