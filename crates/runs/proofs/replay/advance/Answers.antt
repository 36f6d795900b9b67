-- `runs::replay::advance` meets its contract.
-- The local array holds the old labels, which the rule reads while the state is written; the state is as long as what
-- is written.
use Rattle.std.proofs.Common.{◌≡◌, ap₂, ◌∙◌, List, ℕ, arith, rules}
use Rattle.basics.specs.Lists.{at_front}
use Rattle.basics.proofs.Lists.{front-whole}
use Rattle.psvn.specs.Rules.{step}
use Rattle.psvn.proofs.Stepping.{step-length}
use Rattle.runs.proofs.replay.advance.Goals as goal

pub returns : goal.returns
returns c =
    let a = c.args in
    let b = a.block.now in
    let s = a.state.now in
    let old : c.copy_from_slice.new.self ≡ s = search rules in
    c.step.ensures
    ∙ ap₂ (λ (x l : List ℕ). at_front (step x a.r l) s) c.bytes.ensures.same old
    ∙ front-whole (step b a.r s) s (omega (arith, step-length b a.r s))
