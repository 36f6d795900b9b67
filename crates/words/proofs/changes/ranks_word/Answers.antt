-- `words::changes::ranks_word` meets its contract.
use Rattle.std.proofs.Common.{◌≡◌, ℕ, ◌+◌, ◌%◌, get_or, sym, refl, ap, ◌∙◌, ap₂, add-one, arith}
use native.Mathlib.Nat.{mod-add-mod}
use Rattle.basics.specs.Sums.{sum_to}
use Rattle.words.specs.Packing.{unpack}
use Rattle.words.specs.Changes.{word_span, label_weight, ranks_of}
use Rattle.words.proofs.WordDigits.{unpack-at}
use Rattle.words.proofs.changes.ranks_word.Goals as goal

pub loop-p-init : goal.loop-p-init
loop-p-init c = refl

pub bounds-changes-p : goal.bounds-changes-p
bounds-changes-p c = omega (arith, c.digit-label.ensures.1)

pub loop-p-preserved : goal.loop-p-preserved
loop-p-preserved c =
    let a = c.args in
    let l = c.loop-p in
    let state = unpack a.n a.word in
    let weight : ℕ → ℕ = λ k. label_weight a.changes.now k (get_or state k 0) in
    let label =
    c.digit-label.ensures.0
    ∙ sym (unpack-at a.n a.word l.p c.loop-p-test.true) in
    ap₂ (λ (x y : ℕ). (x + y) % word_span) l.invariant (ap (label_weight a.changes.now l.p) label)
    ∙ mod-add-mod (sum_to weight l.p) word_span (weight l.p)
    ∙ ap (λ (k : ℕ). sum_to weight k % word_span) (sym (add-one l.p))

pub returns : goal.returns
unfolding ranks_of
returns c =
    let a = c.args in
    let l = c.loop-p in
    let all : l.p ≡ a.n = omega arith in
    l.invariant
    ∙ ap (λ (k : ℕ). sum_to (λ p. label_weight a.changes.now p (get_or (unpack a.n a.word) p 0)) k % word_span) all
