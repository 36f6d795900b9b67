-- `rank_changes::rows::begin_rows` meets its contract.
-- The loop's invariant: the entries passed are written.
use Rattle.std.proofs.Common.{◌≡◌, ℕ, ◌+◌, ◌%◌, ◌<◌, get_or}
use Rattle.words.specs.Changes.{word_span}
use Rattle.rank_changes.proofs.rows.begin_rows.Given as goal

abbrev pub invariant-loop-k : goal.invariant-loop-k
invariant-loop-k l =
    (j : ℕ) → j < l.k → (get_or l.rows j 0 + get_or l.singles j 0) % word_span ≡ 0
