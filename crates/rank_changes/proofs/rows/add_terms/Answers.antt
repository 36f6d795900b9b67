-- `rank_changes::rows::add_terms` meets its contract.
use Rattle.std.proofs.Common.{◌≡◌, ℕ, subst, arith}
use Rattle.blocks.specs.Sides.{left_terms, right_terms}
use Rattle.rank_changes.specs.Rows.{Balanced}
use Rattle.rank_changes.proofs.RowSums.{balanced-none}
use Rattle.rank_changes.proofs.rows.add_terms.Goals as goal

pub loop-i-init : goal.loop-i-init
loop-i-init c =
    let s = c.args.sides.now in
    balanced-none s.n (left_terms s) (right_terms s) c.args.singles.now (omega arith) c.begin_rows.ensures

pub add_term-constant-requires : goal.add_term-constant-requires
add_term-constant-requires c =
    record { i_in_bounds = c.loop-i-test.true; bound = c.requires; balanced = c.loop-i.invariant }

pub loop-i-preserved : goal.loop-i-preserved
loop-i-preserved c = c.add_term-constant.ensures

pub returns : goal.returns
returns c =
    let s = c.args.sides.now in
    let l = c.loop-i in
    let e : l.i ≡ s.n = omega arith in
    subst (λ (k : ℕ). Balanced s.n (left_terms s) (right_terms s) c.args.singles.now l.rows l.constant k) e l.invariant
