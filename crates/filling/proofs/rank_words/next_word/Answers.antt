-- `filling::rank_words::next_word` meets its contract.
use mathlib.Core.Path.{◌≡◌, ap, ◌∙◌}
use Prim.Native.Nat.{ℕ, suc, ◌+◌, ◌-◌, ◌^◌, ◌<◌}
use native.Mathlib.Nat.{one-le-pow, zero-lt-suc}
use native.Mathlib.Omega.{arith}
use Rattle.blocks.specs.Layout.{abstract_count}
use Rattle.words.specs.Ranking.{word_of}
use Rattle.filling.proofs.NextWords.{counting-first, counting-end, counting-up, counting-on}
use Rattle.filling.proofs.rank_words.next_word.Goals as goal
use Rattle.filling.proofs.rank_words.next_word.Goals.{After-unit}

pub loop-i-init : goal.loop-i-init
loop-i-init c =
    let p = c.positions-i.ensures.0 in (
      c.abstracts-labels.ensures.0,
      omega (arith, p, c.requires.0.sizes.n_high),
      rw p (counting-first c.args.block.now c.requires.0 c.args.u c.args.word c.requires.1),
    )

-- a label that can rise
up :
    (c : After-unit)
    → let a = c.args in
    let l = c.loop-i in
    (l.next + 16 ^ (l.i - 1) ≡ word_of a.block.now (a.u + 1)) × (l.next + 16 ^ (l.i - 1) < 2 ^ 64)
unfolding abstract_count
up c =
    let l = c.loop-i in
    let i : l.i ≡ suc (l.i - 1) = omega (arith, c.loop-i-test.true) in
    counting-up c.args.block.now c.requires.0 c.args.u l.next (l.i - 1) (rw i at l.invariant.2)
    (omega (arith, l.invariant.1, c.loop-i-test.true))
    (omega (arith, l.invariant.0, c.if-digit-labels.true, c.digit.ensures.0))

pub overflow_add-result : goal.overflow_add-result
overflow_add-result c = omega (arith, (up c).1, c.unit.ensures)

pub returns-then-digit-labels : goal.returns-then-digit-labels
returns-then-digit-labels c = ap (λ (x : ℕ). c.loop-i.next + x) c.unit.ensures ∙ (up c).0

pub nonzero_rem-next : goal.nonzero_rem-next
nonzero_rem-next c = rw c.unit-next.ensures (one-le-pow (c.loop-i.i - 1) 16 (zero-lt-suc 15))

pub loop-i-preserved : goal.loop-i-preserved
unfolding abstract_count
loop-i-preserved c =
    let l = c.loop-i in
    let i : l.i ≡ suc (l.i - 1) = omega (arith, c.loop-i-test.true) in
    let k = counting-on c.args.block.now c.requires.0 c.args.u l.next (l.i - 1) (rw i at l.invariant.2)
    (omega (arith, l.invariant.0, c.if-digit-labels.false, c.digit.ensures.0)) in
    (l.invariant.0, omega (arith, l.invariant.1), rw c.unit-next.ensures k)

pub returns : goal.returns
returns c =
    let l = c.loop-i in
    let e : l.i ≡ 0 = omega arith in
    counting-end c.args.block.now c.requires.0 c.args.u l.next (rw e at l.invariant.2)
