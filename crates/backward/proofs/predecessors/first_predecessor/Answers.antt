-- `backward::predecessors::first_predecessor` meets its contract.
-- The candidate with the least labels settles the answer.
use Rattle.std.proofs.Common.{sym, ◌∙◌, length, subst, arith}
use lib.Seq.{length-take-le}
use Rattle.blocks.proofs.StateLaws.{state-length}
use Rattle.backward.specs.Predecessors.{NextState, Answered}
use Rattle.backward.proofs.Candidates.{first-settles}
use Rattle.backward.proofs.predecessors.first_predecessor.Goals as goal

pub of-reversal-requires : goal.of-reversal-requires
of-reversal-requires c =
    let h = c.requires in
    (h.0.sized, h.1, state-length c.args.block.now c.args.state.now h.2)

pub returns : goal.returns
returns c =
    let a = c.args in
    let h = c.requires in
    let b = a.block.now in
    let s = a.state.now in
    let e = c.of-reversal.ensures in
    let room = length-take-le (length s) _ (omega (arith, state-length b s h.2, h.0.sized.headed.sizes.n_high)) in
    let settles =
    first-settles b h.0 a.r h.1 s h.2 _ _ e.1 e.2 _ c.complete.new.candidate
    (c.complete.auto.candidate ∙ room) (rw e.3 at c.complete.ensures) in
    subst (λ (next : NextState). Answered next c.settle.result a.out.now c.settle.new.out)
    (sym settles) c.settle.ensures
