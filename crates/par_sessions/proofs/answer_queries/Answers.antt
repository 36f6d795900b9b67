-- `par_sessions::answer_queries` meets its contract.
-- The block is prepared with no further map, and states are rated by the filled table at the front of the array.
use native.Mathlib.Omega.{arith}
use Rattle.maps.proofs.MapLaws.{none-entries, none-mapped}
use Rattle.filling.proofs.LeastEntries.{cost-bytes, filled-length}
use Rattle.search.proofs.Instance.{ready-rates}
use Rattle.par_queries.proofs.QueryLineLaws.{filled-passing}
use Rattle.par_sessions.proofs.answer_queries.Goals as goal

pub prepare-requires : goal.prepare-requires
prepare-requires g c = none-mapped c.args.block.now c.requires.filled.0

pub answer_lines-requires-clause-prepared : goal.answer_lines-requires-clause-prepared
answer_lines-requires-clause-prepared g c =
    let b = c.args.block.now in
    let valid = c.requires.filled.0 in
    let small = cost-bytes b (λ i. omega (arith, c.type_inv.block i)) in
    let count = filled-length b valid small in (
      c.prepare.ensures.prepared,
      ready-rates (none-mapped b valid)
          (record {
            prepared = c.prepare.ensures.prepared;
            packed = c.prepare.ensures.packed;
            entries_read = λ k l. c.requires.filled.1 k (omega (arith, count, none-entries b));
          })
          (filled-passing b valid small),
      c.requires.filled.2,
    )
