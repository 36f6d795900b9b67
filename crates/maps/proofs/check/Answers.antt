-- `maps::check` meets its contract.
-- What turns the block back, else what turns the maps back.
use Rattle.std.proofs.Common.{sym, ◌∙◌}
use Rattle.std.proofs.lemmas.Result.{err_from_is_err_and}
use Rattle.refusals.proofs.Verdicts.{verdict-behind, verdict-before}
use Rattle.blocks.specs.Validity.{block_conditions}
use Rattle.blocks.proofs.Accepted.{accepted-valid}
use Rattle.maps.specs.Maps.{map_conditions, exercise_conditions}
use Rattle.maps.proofs.check.Goals as goal

pub returns-in_err-check : goal.returns-in_err-check
unfolding exercise_conditions
returns-in_err-check c =
    let a = c.args in
    let p = err_from_is_err_and c.from_residual.result c.from_residual.ensures.1 in
    rw (p.1, p.2)
    (sym (verdict-before (block_conditions a.block.now) (map_conditions a.block.now a.maps.now) _
    (sym c.in_err-check.ensures)))

pub check_maps-requires : goal.check_maps-requires
check_maps-requires c = accepted-valid c.args.block.now (sym c.in_ok-check.ensures)

pub returns : goal.returns
unfolding exercise_conditions
returns c =
    let a = c.args in
    c.check_maps.ensures
    ∙ sym (verdict-behind (block_conditions a.block.now) (map_conditions a.block.now a.maps.now)
    (sym c.in_ok-check.ensures))
