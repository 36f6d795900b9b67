-- `rank_changes::changing::place_rule_changes` meets its contract.
-- The loop's invariant: the changes of the rules passed are written, and the front stays.
use Rattle.std.proofs.Common.{◌≡◌, ℕ, ◌<◌, ◌≤◌, get_or}
use Rattle.blocks.specs.Layout.{rules}
use Rattle.rank_changes.specs.Changes.{ChangeAt}
use Rattle.rank_changes.proofs.changing.place_rule_changes.Given as goal

abbrev pub invariant-loop-r : goal.invariant-loop-r
invariant-loop-r l =
    (l.count ≡ rules l.block) × (l.r ≤ l.count)
    × ((k : ℕ) → k < l.r → ChangeAt l.block l.singles l.changes k)
    × ((k : ℕ) → k < 257 → get_or l.changes k 0 ≡ get_or l.initial.changes k 0)
