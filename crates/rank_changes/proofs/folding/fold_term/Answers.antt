-- `rank_changes::folding::fold_term` meets its contract.
-- Where the left term is a constant its row is folded; in the other cases nothing changes.
use Rattle.std.proofs.Common.{sym, ◌∙◌, arith}
use Rattle.blocks.specs.Sides.{left_terms}
use Rattle.blocks.proofs.TermCases.{label-lt}
use Rattle.rank_changes.proofs.RowFolds.{row-folded}
use Rattle.rank_changes.proofs.folding.fold_term.Goals as goal

-- the label of the term is below 16
pub bounds-rows-i : goal.bounds-rows-i
bounds-rows-i c =
    let e = sym c.decode.ensures ∙ c.in-Label.is in
    omega (arith, label-lt (left_terms c.args.sides.now c.args.i) _ e, c.from.ensures)

pub returns-in-Label : goal.returns-in-Label
returns-in-Label c =
    let a = c.args in
    let s = a.sides.now in
    let e = sym c.decode.ensures ∙ c.in-Label.is in
    row-folded s.n (left_terms s) a.constant a.i c.requires _ c.from.result e c.from.ensures c.clear_row.ensures
