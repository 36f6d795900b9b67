-- `blocks::validity::check` meets its contract.
-- What turns the shape back, else what turns the content back.
use Rattle.std.proofs.Common.{sym, ◌∙◌}
use Rattle.std.proofs.lemmas.Result.{err_from_is_err_and}
use Rattle.refusals.proofs.Verdicts.{verdict-behind, verdict-before}
use Rattle.blocks.specs.Validity.{shape_conditions, content_conditions, block_conditions}
use Rattle.blocks.proofs.Accepted.{shape-sized}
use Rattle.blocks.proofs.validity.check.Goals as goal

pub returns-in_err-check_shape : goal.returns-in_err-check_shape
unfolding block_conditions
returns-in_err-check_shape c =
    let p = err_from_is_err_and c.from_residual.result c.from_residual.ensures.1 in
    rw (p.1, p.2) (sym (verdict-before (shape_conditions c.args.block.now) _ _ (sym c.in_err-check_shape.ensures)))

pub check_content-requires : goal.check_content-requires
check_content-requires c = shape-sized c.args.block.now (sym c.in_ok-check_shape.ensures)

pub returns : goal.returns
unfolding block_conditions
returns c =
    let b = c.args.block.now in
    c.check_content.ensures
    ∙ sym (verdict-behind (shape_conditions b) (content_conditions b) (sym c.in_ok-check_shape.ensures))
