-- `backward::predecessors::pivot` meets its contract.
use Rattle.std.proofs.Common.{◌≡◌, ℕ, ◌+◌, sym, ap, ap₂, ◌∙◌, length, get_or, arith}
use Rattle.basics.specs.Bounded.{last}
use Rattle.blocks.specs.Layout.{label_count}
use Rattle.blocks.specs.Sides.{left_terms, right_terms}
use Rattle.backward.specs.Choices.{Choice, choices_of, rises_of, keeps_of, raisable_at}
use Rattle.backward.proofs.Completing.{rises-last, stays-last, stop-last}
use Rattle.backward.proofs.predecessors.pivot.Goals as goal
use Rattle.backward.proofs.predecessors.pivot.Goals.{Then-not-keeps, then-rises, else-rises}

-- where the arms of the first test meet, `best` tells the last position up to this one
best-last :
    (c : Then-not-keeps)
    →
    let r = c.args.reversal.now in
    let choices = choices_of (left_terms r.sides) (right_terms r.sides) r.state.now in
    c.if-rises.best
    ≡ last (c.loop-i.i + 1) (raisable_at (label_count c.args.block.now) choices c.args.earlier.now)
best-last c =
    let r = c.args.reversal.now in
    let e = c.args.earlier.now in
    let count = label_count c.args.block.now in
    let choices = choices_of (left_terms r.sides) (right_terms r.sides) r.state.now in
    let l = c.loop-i in
    let rises : c.rises.result ≡ rises_of (count l.i) (choices e l.i) (get_or e l.i 0) =
    c.rises.ensures
    ∙ ap₂ (λ (count : ℕ) (choice : Choice). rises_of count choice (get_or e l.i 0)) c.label_count.ensures.0
    c.choice_at-choice.ensures in
    elim c.if-rises.branch [
      | then-rises w ↦
          w.best-is ∙ rises-last count choices e l.i l.invariant.0 (sym rises ∙ w.if-rises.true)
      | else-rises w ↦
          w.best-is ∙ stays-last count choices e l.i l.best (sym rises ∙ w.if-rises.false) l.invariant.1
    ]

pub returns-then-not-keeps : goal.returns-then-not-keeps
returns-then-not-keeps c =
    let r = c.args.reversal.now in
    let e = c.args.earlier.now in
    let i = c.loop-i.i in
    best-last c
    ∙ stop-last (label_count c.args.block.now)
    (choices_of (left_terms r.sides) (right_terms r.sides) r.state.now) e i
    (length r.state.now) (omega (arith, r.whole))
    (ap (λ (choice : Choice). keeps_of choice (get_or e i 0)) (sym c.choice_at-choice.ensures)
    ∙ sym c.keeps.ensures ∙ c.if-not-keeps.true)
