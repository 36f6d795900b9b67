-- `batch_calls::batches::check_batch` meets its contract.
-- An accepted block has a head, and accepted maps tables to be measured.
use Rattle.std.proofs.Common.{sym, arith}
use Rattle.maps.proofs.MapLaws.{exercise-accepted}
use Rattle.batch_calls.proofs.batches.check_batch.Goals as goal

pub records_ok-requires : goal.records_ok-requires
records_ok-requires c =
    let mapped = exercise-accepted c.args.block.now c.args.maps.now (sym c.in_ok-check.ensures) in
    (mapped.valid 0 (omega arith)).sized.headed

pub check_tables-requires : goal.check_tables-requires
check_tables-requires c = exercise-accepted c.args.block.now c.args.maps.now (sym c.in_ok-check.ensures)
