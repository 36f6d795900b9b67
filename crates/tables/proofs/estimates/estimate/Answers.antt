-- `tables::estimates::estimate` meets its contract.
-- It is the entry at the relabelled state's rank.
use mathlib.Core.Path.{ap}
use Prim.Native.Nat.{ℕ}
use lib.ListN.{get_or}
use Rattle.tables.specs.Tables.{entry, estimate}
use Rattle.tables.proofs.estimates.estimate.Goals as goal

pub returns : goal.returns
unfolding estimate entry
returns c =
    let a = c.args in
    ap (λ (k : ℕ). get_or a.table.now k 0) c.relabelled_rank.ensures.0
