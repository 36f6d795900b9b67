-- `map_tables::further_entry` meets its contract.
-- The part of the buffer that is looked at is the exercise under the map, and a state of the exercise is one of it.
use Rattle.std.proofs.Common.{List, ℕ, suc, ap, ◌∙◌}
use Rattle.psvn.proofs.AlikeLaws.{state-alike}
use Rattle.maps.proofs.MapLaws.{exercise-alike, exercise-part, exercise-length, exercise-fits}
use Rattle.tables.specs.Tables.{estimate}
use Rattle.map_tables.proofs.further_entry.Goals as goal

pub slice_bounds-own-end : goal.slice_bounds-own-end
slice_bounds-own-end c = exercise-fits c.args.block.now c.args.maps.now (suc c.args.i) _ _ c.remap.ensures

pub slice_bounds-estimate-end : goal.slice_bounds-estimate-end
slice_bounds-estimate-end c = exercise-length c.args.block.now c.args.maps.now (suc c.args.i) _ _ c.remap.ensures

pub estimate-requires : goal.estimate-requires
estimate-requires c =
    let alike = exercise-alike c.args.block.now c.args.maps.now (suc c.args.i) in
    rw (exercise-part c.args.block.now c.args.maps.now (suc c.args.i) _ _ c.remap.ensures) (
      c.requires.0.valid (suc c.args.i) c.requires.1,
      state-alike alike c.args.state.now ∙ c.requires.2,
      c.requires.3,
    )

pub returns : goal.returns
returns c =
    c.estimate.ensures
    ∙ ap (λ (b : List ℕ). estimate b c.args.table.now c.args.state.now)
    (exercise-part c.args.block.now c.args.maps.now (suc c.args.i) _ _ c.remap.ensures)
