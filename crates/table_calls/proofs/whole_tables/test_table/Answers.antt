-- `table_calls::whole_tables::test_table` keeps its promise.
-- The entries that are lent are numbers of 32 bits.
use Rattle.std.proofs.Common.{sym, arith}
use Rattle.table_calls.proofs.Promises.{tested-kept}
use Rattle.table_calls.proofs.whole_tables.test_table.Goals as goal

pub returns-clause-table_test_kept : goal.returns-clause-table_test_kept
returns-clause-table_test_kept c =
    let a = c.args in
    let small = c.type_inv.table in
    tested-kept a.block.now a.maps.now a.table.now (λ i. omega (arith, small i)) c.all_pass.result
    (sym c.in_ok-check_table.ensures) c.all_pass.ensures
