-- `table_calls::whole_tables::fill_table` keeps its promise.
-- The block that is lent has bytes.
use Rattle.std.proofs.Common.{sym, arith, length}
use Rattle.map_fills.proofs.AllFilled.{all-filled-front}
use Rattle.table_calls.proofs.Conditions.{table_accepted}
use Rattle.table_calls.proofs.whole_tables.fill_table.Goals as goal

pub returns-clause-filling_kept : goal.returns-clause-filling_kept
returns-clause-filling_kept c =
    let a = c.args in
    let small = c.type_inv.block in
    let accepted =
    table_accepted a.block.now a.maps.now (length a.table.now) (sym c.in_ok-check_table.ensures) in
    rw c.fill_all.ensures
    (all-filled-front a.block.now a.maps.now a.table.now (λ i. omega (arith, small i)) accepted.mapped)
