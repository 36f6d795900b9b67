-- `psvn::matching::label_bound` meets its contract.
-- A variable that stands nowhere gives 0, as a place behind the state does.
use Rattle.std.proofs.Common.{sym, ap, ◌∙◌, ℕ, eqb, length, get_or, arith}
use Rattle.std.proofs.Math.ListN.{get_or-eq_default}
use Rattle.basics.proofs.Bounded.{find-holds, find-first, find-missing}
use Rattle.blocks.specs.Layout.{side_at}
use Rattle.psvn.specs.Rules.{bound}
use Rattle.psvn.proofs.matching.label_bound.Goals as goal

pub bounds-state-j : goal.bounds-state-j
bounds-state-j c =
    let a = c.args in
    (find-holds (λ k. eqb (side_at a.block.now a.at k) a.v) (length a.state.now) c.in-Some.j (sym c.in-Some.ensures)).0

pub returns-in-Some : goal.returns-in-Some
unfolding bound
returns-in-Some c =
    let a = c.args in
    ap (λ (k : ℕ). get_or a.state.now k 0)
    (sym (find-first (λ k. eqb (side_at a.block.now a.at k) a.v) (length a.state.now) c.in-Some.j
    (sym c.in-Some.ensures)))

pub returns-in-None : goal.returns-in-None
unfolding bound
returns-in-None c =
    let a = c.args in
    let end =
    find-missing (λ k. eqb (side_at a.block.now a.at k) a.v) (length a.state.now) (sym c.in-None.ensures) in
    sym (ap (λ (k : ℕ). get_or a.state.now k 0) end ∙ get_or-eq_default a.state.now 0 (omega arith))
