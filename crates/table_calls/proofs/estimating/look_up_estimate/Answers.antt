-- `table_calls::estimating::look_up_estimate` meets its contract.
-- Accepted maps can be counted, and a state is asked for by the block's head; the entries that are lent are numbers of
-- 32 bits.
use Rattle.std.proofs.Common.{sym, arith}
use Rattle.maps.proofs.MapLaws.{exercise-accepted}
use Rattle.table_calls.proofs.Promises.{looked-kept}
use Rattle.table_calls.proofs.estimating.look_up_estimate.Goals as goal

pub state_ok-requires : goal.state_ok-requires
state_ok-requires c =
    let mapped = exercise-accepted c.args.block.now c.args.maps.now (sym c.in_ok-check.ensures) in
    (mapped.valid 0 (omega arith)).sized.headed

pub all_entries-requires : goal.all_entries-requires
all_entries-requires c = exercise-accepted c.args.block.now c.args.maps.now (sym c.in_ok-check.ensures)

pub largest_entry-requires : goal.largest_entry-requires
largest_entry-requires c =
    let a = c.args in
    let counted = c.all_entries.ensures in (
      exercise-accepted a.block.now a.maps.now (sym c.in_ok-check.ensures),
      sym c.if-not-state_ok.ensures,
      omega (arith, counted.0),
    )

pub returns-clause-estimate_kept : goal.returns-clause-estimate_kept
returns-clause-estimate_kept c =
    let a = c.args in
    let small = c.type_inv.table in
    let mapped = exercise-accepted a.block.now a.maps.now (sym c.in_ok-check.ensures) in
    looked-kept a.block.now a.maps.now a.table.now (λ i. omega (arith, small i)) a.state.now c.largest_entry.result
    mapped (sym c.if-not-state_ok.ensures) c.largest_entry.ensures
