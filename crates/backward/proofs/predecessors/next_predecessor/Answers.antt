-- `backward::predecessors::next_predecessor` meets its contract.
-- The earlier state, raised at the last position where that can be done, settles the answer.
use Rattle.std.proofs.Common.{refl, sym, ◌∙◌, length, subst, arith}
use lib.Seq.{length-take-le}
use Rattle.basics.proofs.Bounded.{last-holds}
use Rattle.blocks.specs.Layout.{label_count}
use Rattle.blocks.proofs.StateLaws.{state-length, label-below}
use Rattle.blocks.specs.Sides.{left_terms, right_terms}
use Rattle.backward.specs.Choices.{choices_of, raisable_at}
use Rattle.backward.specs.Predecessors.{NextState, Answered}
use Rattle.backward.proofs.Candidates.{next-settles, next-none}
use Rattle.backward.proofs.predecessors.next_predecessor.Goals as goal

pub of-reversal-requires : goal.of-reversal-requires
of-reversal-requires c =
    let h = c.requires in
    (h.0.sized, h.1, state-length c.args.block.now c.args.state.now h.2)

pub pivot-requires : goal.pivot-requires
pivot-requires c =
    let e = c.of-reversal.ensures in
    (c.requires.0.sized.headed, e.0, state-length c.args.block.now c.args.earlier.now c.requires.3 ∙ sym e.0)

pub returns-in_default : goal.returns-in_default
returns-in_default c =
    let a = c.args in
    let h = c.requires in
    let e = c.of-reversal.ensures in
    let none =
    next-none a.block.now h.0 a.r h.1 a.state.now h.2 _ _ e.1 e.2 a.earlier.now h.3
    (rw e.3 at (sym c.in_default.ensures)) in
    rw none (refl, refl)

pub raise-requires : goal.raise-requires
raise-requires c =
    let a = c.args in
    let h = c.requires in
    let b = a.block.now in
    let s = a.state.now in
    let e = c.of-reversal.ensures in
    let r = c.of-reversal.result in
    let long = state-length b s h.2 in
    let raisable =
    raisable_at (label_count c.args.block.now)
    (choices_of (left_terms r.sides) (right_terms r.sides) r.state.now) a.earlier.now in
    let low = (last-holds raisable (length r.state.now) c.in-Some.place (sym c.in-Some.ensures)).0 in
    let x =
    label-below b h.0.sized.headed a.earlier.now h.3 c.in-Some.place (omega (arith, low, r.whole, e.0)) in (
      state-length b a.earlier.now h.3 ∙ sym e.0,
      length-take-le (length s) _ (omega (arith, long, h.0.sized.headed.sizes.n_high)) ∙ long ∙ sym e.0,
      omega (arith, low, r.whole),
      omega (arith, x),
    )

pub returns : goal.returns
returns c =
    let a = c.args in
    let h = c.requires in
    let b = a.block.now in
    let s = a.state.now in
    let e = c.of-reversal.ensures in
    let room = length-take-le (length s) _ (omega (arith, state-length b s h.2, h.0.sized.headed.sizes.n_high)) in
    let settles =
    next-settles b h.0 a.r h.1 s h.2 _ _ e.1 e.2 a.earlier.now h.3 c.raise.new.candidate c.in-Some.place
    (c.raise.auto.candidate ∙ room) (rw e.3 at (sym c.in-Some.ensures)) (rw e.3 at c.raise.ensures) in
    subst (λ (next : NextState). Answered next c.settle.result a.out.now c.settle.new.out)
    (sym settles) c.settle.ensures
