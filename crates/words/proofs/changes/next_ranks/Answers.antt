-- `words::changes::next_ranks` meets its contract.
use Rattle.std.proofs.Common.{◌≡◌, ℕ, ◌+◌, ◌%◌, sym, ap, ◌∙◌, ap₂, add-zero, add_assoc, zero-add, add-one, arith}
use Rattle.std.proofs.Common.{rules}
use native.Mathlib.Nat.{mod-add-mod}
use Rattle.words.specs.Changes.{word_span, change_place, part_count, part_place, part_adds, added_to, next_ranks}
use Rattle.words.proofs.changes.next_ranks.Goals as goal

pub loop-init : goal.loop-init
unfolding added_to
loop-init c =
    let a = c.args in (
      search rules,
      ap (λ (x : ℕ). (a.ranks + x) % word_span)
          (c.added.ensures
          ∙ ap (λ (k : ℕ). part_adds a.changes.now k a.word) (sym (add-zero (change_place a.r + 1)))
          ∙ sym (zero-add (part_adds a.changes.now (part_place a.r 0) a.word))),
    )

pub loop-preserved : goal.loop-preserved
unfolding added_to
loop-preserved c =
    let a = c.args in
    let l = c.loop in
    let before = added_to a.changes.now a.r a.word in (
      search rules,
      ap₂ (λ (x y : ℕ). (x + y) % word_span) l.invariant.1
          (c.added-sum.ensures ∙ ap (λ (k : ℕ). part_adds a.changes.now k a.word) (omega (arith, l.invariant.0)))
          ∙ mod-add-mod (a.ranks + before l.counter) word_span _
          ∙ ap (λ (x : ℕ). x % word_span) (add_assoc a.ranks (before l.counter) _)
          ∙ ap (λ (j : ℕ). (a.ranks + before j) % word_span) (sym (add-one l.counter)),
    )

pub returns : goal.returns
unfolding next_ranks
returns c =
    let a = c.args in
    let l = c.loop in
    let all : l.counter ≡ part_count a.changes.now a.r = omega (arith, c.requires.1, c.loop-test.false) in
    l.invariant.1 ∙ ap (λ (j : ℕ). (a.ranks + added_to a.changes.now a.r a.word j) % word_span) all
