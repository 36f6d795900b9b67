-- `batch_calls::batches::record_count` meets its contract.
-- The length of a query is not 0, and tells how many there are.
use mathlib.Core.Path.{ap}
use Prim.Native.Nat.{ℕ, ◌/◌}
use Rattle.batch_calls.proofs.batches.record_count.Goals as goal

pub returns : goal.returns
returns c = ap (λ (n : ℕ). c.args.bytes / n) c.query_length.ensures.0
