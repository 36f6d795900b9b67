-- `search::readying::read_entries` meets its contract.
-- The loop's invariant: the entries passed are read.
use Rattle.std.proofs.Common.{◌≡◌, ℕ, ◌<◌}
use lib.ListN.{get_or}
use Rattle.search.proofs.readying.read_entries.Given as goal

abbrev pub invariant-loop-k : goal.invariant-loop-k
invariant-loop-k l = (j : ℕ) → j < l.k → get_or l.entries j 0 ≡ get_or l.table j 0
