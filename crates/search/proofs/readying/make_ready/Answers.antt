-- `search::readying::make_ready` meets its contract.
-- The arrays are prepared, and the entries read are those of all tables.
use native.Mathlib.Omega.{arith}
use Rattle.search.proofs.readying.make_ready.Goals as goal

pub read_entries-requires : goal.read_entries-requires
read_entries-requires c =
    let p = c.requires in
    let count = c.all_entries.ensures in
    (omega (arith, count.0, p.1), count.1)

pub returns : goal.returns
returns c =
    let prepared = c.prepare.ensures in
    record {
      prepared = prepared.prepared;
      packed = prepared.packed;
      entries_read = λ k l. c.read_entries.ensures k (omega (arith, c.all_entries.ensures.0));
    }
