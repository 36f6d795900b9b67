-- `backward::predecessors::pivot` meets its contract.
-- The loop's invariant: the labels passed may stand where they
-- do, and `best` tells the last of them that can be raised.
use Rattle.std.proofs.Common.{◌≡◌, true}
use Rattle.basics.specs.Bounded.{last}
use Rattle.blocks.specs.Layout.{label_count}
use Rattle.blocks.specs.Sides.{left_terms, right_terms}
use Rattle.backward.specs.Choices.{choices_of, kept_to, raisable_at}
use Rattle.backward.proofs.predecessors.pivot.Given as goal

abbrev pub invariant-loop-i : goal.invariant-loop-i
invariant-loop-i l =
    let r = l.reversal in
    let choices = choices_of (left_terms r.sides) (right_terms r.sides) r.state.now in
    (kept_to choices l.earlier l.i ≡ true)
    × (l.best ≡ last l.i (raisable_at (label_count l.block) choices l.earlier))
