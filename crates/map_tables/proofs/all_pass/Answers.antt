-- `map_tables::all_pass_lem` meets its contract.
use Rattle.std.proofs.Common.{suc, ◌+◌, sym, ap, ◌∙◌, arith}
use Rattle.basics.proofs.Bounded.{all-passed, all-false}
use Rattle.maps.specs.Maps.{all_maps, exercise_at}
use Rattle.maps.proofs.MapLaws.{counted}
use Rattle.tables.specs.Tables.{passes_test}
use Rattle.map_tables.specs.MapTables.{all_pass}
use Rattle.map_tables.proofs.Places.{lent-table}
use Rattle.map_tables.proofs.all_pass.Goals as goal
use Rattle.map_tables.proofs.all_pass.Invariants.{holds}

pub returns-then-not-passes : goal.returns-then-not-passes
unfolding all_pass
returns-then-not-passes c =
    let a = c.args in
    let b = a.block.now in
    let maps = a.maps.now in
    let fails = sym c.passes.ensures ∙ c.if-not-passes.true in
    sym (all-false (holds b maps a.table.now) (all_maps b maps) 0 (omega arith) fails)

-- the test of the table at hand is that of its place
pub returns-then-not-further_passes : goal.returns-then-not-further_passes
unfolding all_pass
returns-then-not-further_passes c =
    let a = c.args in
    let b = a.block.now in
    let maps = a.maps.now in
    let t = a.table.now in
    let l = c.loop-i in
    let fails =
    sym (ap (passes_test (exercise_at b maps (suc l.i)))
    (lent-table b maps c.requires.0 l.i (omega arith) l.at l.invariant.0 t c.requires.1))
    ∙ sym c.further_passes.ensures ∙ c.if-not-further_passes.true in
    sym (all-false (holds b maps t) (all_maps b maps) (suc l.i) (omega arith) fails)

pub entries_of-at-requires : goal.entries_of-at-requires
entries_of-at-requires c = counted c.args.block.now c.args.maps.now c.requires.0 c.loop-i.i (omega arith)

pub returns : goal.returns
unfolding all_pass
returns c =
    let a = c.args in
    let b = a.block.now in
    let maps = a.maps.now in
    sym (all-passed (holds b maps a.table.now) (all_maps b maps) (c.loop-i.i + 1) (omega arith) c.loop-i.invariant.1)
