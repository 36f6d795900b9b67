-- `edge_ranks::Sides::is_idle` meets its contract.
-- The loop's invariant: the labels passed change nothing.
use Rattle.std.proofs.Common.{◌≡◌, ℕ, ◌*◌, ◌^◌, ◌≤◌, ◌<◌}
use Rattle.words.specs.Sides.{rewritten_word}
use Rattle.edge_ranks.proofs.Sides.is_idle.Given as goal

abbrev pub invariant-loop-label : goal.invariant-loop-label
invariant-loop-label live =
    (l : ℕ) → 1 ≤ l → l < live.label → rewritten_word live.self.code.now live.self.x (l * 16 ^ live.p) ≡ live.base
