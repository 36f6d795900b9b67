-- `edge_ranks::extend` meets its contract.
-- The loop's invariant: the ranks passed stand again from `at` on, and those before `at` and behind them stay.
use Rattle.std.proofs.Common.{◌≡◌, ℕ, ◌+◌, ◌%◌, ◌≤◌, ◌<◌}
use Rattle.edge_ranks.specs.Lists.{rank_at}
use Rattle.edge_ranks.proofs.extend.Given as goal

abbrev pub invariant-loop-j : goal.invariant-loop-j
invariant-loop-j l =
    ((i : ℕ) → i < l.at → rank_at l.list i ≡ rank_at l.initial.list i)
    × ((i : ℕ) → i < l.j → rank_at l.list (l.at + i) ≡ (rank_at l.initial.list i + l.by) % 16384)
    × ((i : ℕ) → l.at + l.j ≤ i → rank_at l.list i ≡ rank_at l.initial.list i)
