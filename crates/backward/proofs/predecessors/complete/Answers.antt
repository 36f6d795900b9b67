-- `backward::predecessors::complete` meets its contract.
use Rattle.std.proofs.Common.{◌≡◌, ◌<◌, ap, ◌∙◌, length, arith}
use Rattle.blocks.specs.Sides.{left_terms, right_terms}
use Rattle.backward.specs.Choices.{choices_of, least_of}
use Rattle.backward.proofs.ChoiceCases.{choice-local}
use Rattle.backward.proofs.Completing.{complete-before, complete-after}
use Rattle.backward.proofs.predecessors.complete.Goals as goal

pub loop-i-preserved : goal.loop-i-preserved
loop-i-preserved c =
    let a = c.args in
    let i = c.loop-i.i in
    let u = c.loop-i.candidate in
    let r = a.reversal.now in
    let s = r.sides in
    let w = choices_of (left_terms s) (right_terms s) r.state.now in
    let near =
    choice-local (length r.state.now) (left_terms s) (right_terms s) r.state.now in
    let inv = c.loop-i.invariant in
    let l : i < length u = omega arith in
    let e : c.least.result ≡ least_of (w u i) = c.least.ensures ∙ ap least_of c.choice_at.ensures in (
      complete-before w near u i c.least.result l a.from a.candidate.now (omega arith) inv.0,
      complete-after w near u i c.least.result l a.from e inv.1,
    )
