-- `search_calls::searching::find_plan` meets its contract.
-- An accepted call may search; what the search layer ends with gives the answer, and demand 3 for it.
use mathlib.Core.Path.{sym, ap, ◌∙◌}
use native.Mathlib.Omega.{arith}
use lib.ListN.{length}
use Rattle.refusals.specs.Answers.{Answer, guarded}
use Rattle.search.specs.Exercises.{estimate_of}
use Rattle.search.proofs.Demand.{tables-passing}
use Rattle.search.proofs.Instance.{ready-rates}
use Rattle.search_calls.specs.Searching.{find_plan}
use Rattle.search_calls.proofs.Conditions.{search_accepted}
use Rattle.search_calls.proofs.SearchAnswers.{answered-by, kept_by, given}
use Rattle.search_calls.proofs.searching.find_plan.Goals as goal

pub make_ready-requires : goal.make_ready-requires
make_ready-requires c =
    let a = c.args in
    let known =
    search_accepted a.block.now a.maps.now a.start.now a.limits a.table.now (length a.plan.now)
    (sym c.in_ok-check_search.ensures) in
    (known.mapped, known.tables.entries)

pub find_plan-ending-requires : goal.find_plan-ending-requires
find_plan-ending-requires c =
    let a = c.args in
    let known =
    search_accepted a.block.now a.maps.now a.start.now a.limits a.table.now (length a.plan.now)
    (sym c.in_ok-check_search.ensures) in
    (c.make_ready.ensures.prepared, known.state, known.steps_few, known.room-left)

pub returns : goal.returns
unfolding find_plan
returns c =
    let a = c.args in
    let rate = estimate_of a.block.now a.maps.now a.table.now in
    let accepted = sym c.in_ok-check_search.ensures in
    let known =
    search_accepted a.block.now a.maps.now a.start.now a.limits a.table.now (length a.plan.now) accepted in
    let small = c.type_inv.table in
    let rated =
    ready-rates known.mapped c.make_ready.ensures
    (tables-passing a.block.now a.maps.now a.table.now known.mapped (λ i. omega (arith, small i))
    known.tables.passing) in
    let ends = c.find_plan-ending.ensures in
    let ended = ends.by_index rate rated in
    let out = c.find_plan-ending.new.plan in
    record {
      plan_after = answered-by a.block.now a.maps.now a.start.now a.limits a.table.now a.plan.now out known.room-left
          c.find_plan-ending.result ends.found_within ended
          ∙ sym (ap (λ (v : Answer (Unit {0})). guarded v a.plan.now
          (given a.block.now a.maps.now a.start.now a.limits a.table.now a.plan.now)) accepted);
      plan_kept = kept_by a.block.now a.maps.now a.start.now a.limits a.table.now a.plan.now out
          (known.mapped.valid 0 (omega arith)) c.find_plan-ending.result ended;
    }
