-- `table_calls::whole_tables::check_table` meets its contract.
-- Accepted maps can be counted.
use Rattle.std.proofs.Common.{sym}
use Rattle.maps.proofs.MapLaws.{exercise-accepted}
use Rattle.table_calls.proofs.whole_tables.check_table.Goals as goal

pub all_entries-requires : goal.all_entries-requires
all_entries-requires c = exercise-accepted c.args.block.now c.args.maps.now (sym c.in_ok-check.ensures)
