-- `psvn::rules::rewrite` meets its contract.
use Rattle.std.proofs.Common.{◌≡◌, sym, ap, ap₂, ◌∙◌, ℕ, List, length, zero-add, arith}
use lib.ListN.{set}
use lib.Seq.{sets, length-sets}
use Rattle.basics.specs.Lists.{tabulate}
use Rattle.basics.proofs.Lists.{length-tabulate, sets_more, sets-front}
use Rattle.psvn.specs.Rules.{rewritten}
use Rattle.psvn.proofs.rules.rewrite.Goals as goal
use Rattle.psvn.proofs.rules.rewrite.Invariants.{made}

-- the buffer keeps its length
kept : (o out : List ℕ) (i : ℕ) (f : ℕ → ℕ) → out ≡ sets o 0 (tabulate i f) → length out ≡ length o
kept o out i f e = ap length e ∙ length-sets o 0 (tabulate i f)

pub bounds-out-i : goal.bounds-out-i
bounds-out-i c =
    let a = c.args in
    let f = made a.block.now a.left a.right a.state.now in
    omega (arith, kept a.out.now c.loop-i.out c.loop-i.i f c.loop-i.invariant)

pub loop-i-preserved : goal.loop-i-preserved
loop-i-preserved c =
    let a = c.args in
    let i = c.loop-i.i in
    let f = made a.block.now a.left a.right a.state.now in
    ap₂ (λ (l : List ℕ) (k : ℕ). set l k c.label_given-given.result.0) c.loop-i.invariant (sym (zero-add i))
    ∙ sets_more a.out.now 0 i f c.label_given-given.result.0 c.label_given-given.ensures

pub shape_of-out : goal.shape_of-out
shape_of-out c =
    let a = c.args in
    kept a.out.now c.loop-i.out c.loop-i.i (made a.block.now a.left a.right a.state.now) c.loop-i.invariant

pub returns : goal.returns
unfolding rewritten
returns c =
    let a = c.args in
    let n = length a.state.now in
    let f = made a.block.now a.left a.right a.state.now in
    let e : c.loop-i.i ≡ n = omega arith in
    c.loop-i.invariant ∙ ap (λ (k : ℕ). sets a.out.now 0 (tabulate k f)) e
    ∙ sets-front a.out.now (tabulate n f) (omega (arith, length-tabulate n f))
