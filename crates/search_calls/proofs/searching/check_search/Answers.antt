-- `search_calls::searching::check_search` meets its contract.
-- An accepted block has a head, and accepted maps tables to be measured.
use Rattle.std.proofs.Common.{sym, arith}
use Rattle.maps.proofs.MapLaws.{exercise-accepted}
use Rattle.search_calls.proofs.searching.check_search.Goals as goal

pub check_query-requires : goal.check_query-requires
check_query-requires c =
    let mapped = exercise-accepted c.args.block.now c.args.maps.now (sym c.in_ok-check.ensures) in
    (mapped.valid 0 (omega arith)).sized.headed

pub check_lent-requires : goal.check_lent-requires
check_lent-requires c = exercise-accepted c.args.block.now c.args.maps.now (sym c.in_ok-check.ensures)
