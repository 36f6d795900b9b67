-- `rank_changes::rows::add_to_row` meets its contract.
use Rattle.std.proofs.Common.{◌≡◌, ℕ, ◌%◌, ◌+◌, ap, arith, rules}
use Rattle.words.specs.Changes.{word_span}
use Rattle.rank_changes.specs.Rows.{entry}
use Rattle.rank_changes.proofs.RowSums.{added_none, added_more}
use Rattle.rank_changes.proofs.rows.add_to_row.Goals as goal

pub loop-x-init : goal.loop-x-init
loop-x-init g c = λ d told. added_none c.args.rows.now

pub loop-x-preserved : goal.loop-x-preserved
loop-x-preserved g c = λ d told.
    let l = c.loop-x in
    let e = told l.x c.added.result (omega arith) c.added.ensures in
    added_more _ (search rules) (omega arith) (omega arith)
    (ap (λ (y : ℕ). (entry l.rows c.args.p l.x + y) % word_span) e) (l.invariant d told)

pub returns : goal.returns
returns g c = λ d told.
    let l = c.loop-x in
    let e : l.x ≡ 16 = omega arith in
    rw e at l.invariant d told
