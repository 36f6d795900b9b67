-- `words::sides::met_goal_word` meets its contract.
-- The loop's invariant: no goal passed is met.
use Rattle.std.proofs.Common.{◌≡◌, ℕ, ◌<◌, false}
use Rattle.words.specs.Sides.{goal_place, matches_word}
use Rattle.words.proofs.sides.met_goal_word.Given as goal

abbrev pub invariant-loop-g : goal.invariant-loop-g
invariant-loop-g l = (k : ℕ) → k < l.g → matches_word l.code (goal_place k) l.word ≡ false
