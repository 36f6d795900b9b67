-- `queries::check_query` meets its contract.
-- At each return the tests that led there say which condition is the first to fail.
use Rattle.std.proofs.Common.{sym, ◌∙◌, arith}
use borrow.Author.Tests.{le-leb, lt-leb}
use Rattle.queries.specs.Queries.{longest_plan, query_conditions}
use Rattle.queries.proofs.check_query.Goals as goal

pub returns-then-not-state_ok : goal.returns-then-not-state_ok
unfolding query_conditions
returns-then-not-state_ok c = sym (rw (sym c.state_ok.ensures ∙ c.if-not-state_ok.true))

pub returns-then-limits-gt-LONGEST_PLAN : goal.returns-then-limits-gt-LONGEST_PLAN
unfolding query_conditions
returns-then-limits-gt-LONGEST_PLAN c =
    let right = sym c.state_ok.ensures ∙ c.if-not-state_ok.false in
    sym (rw (right, lt-leb c.args.limits.steps longest_plan (omega arith)))

pub returns : goal.returns
unfolding query_conditions
returns c =
    let right = sym c.state_ok.ensures ∙ c.if-not-state_ok.false in
    sym (rw (right, le-leb c.args.limits.steps longest_plan (omega arith)))
