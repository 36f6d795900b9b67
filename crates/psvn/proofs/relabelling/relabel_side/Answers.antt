-- `psvn::relabelling::relabel_side` meets its contract.
use mathlib.Core.Path.{◌≡◌, ap, ◌∙◌}
use mathlib.Core.List.{List}
use Prim.Native.Nat.{ℕ, ◌+◌}
use native.Mathlib.Omega.{arith}
use lib.ListN.{length, set}
use lib.Seq.{sets, length-sets}
use borrow.Author.Rules.{rules}
use Rattle.basics.specs.Lists.{tabulate}
use Rattle.basics.proofs.Lists.{sets_more}
use Rattle.blocks.specs.Layout.{positions, side_at}
use Rattle.psvn.specs.Relabelling.{relabel_side}
use Rattle.blocks.proofs.Accepted.{side-term}
use Rattle.psvn.proofs.relabelling.relabel_side.Goals as goal
use Rattle.psvn.proofs.relabelling.relabel_side.Invariants.{made}

pub relabel_term-requires : goal.relabel_term-requires
relabel_term-requires c =
    let a = c.args in
    let h = c.requires in (
      h.0,
      omega arith,
      side-term a.block.now (side_at a.block.now a.from) h.2
          c.loop-i.i (omega arith),
    )

-- the buffer keeps its length
kept : (o out : List ℕ) (to i : ℕ) (f : ℕ → ℕ) → out ≡ sets o to (tabulate i f) → length out ≡ length o
kept o out to i f e = ap length e ∙ length-sets o to (tabulate i f)

pub bounds-out-to : goal.bounds-out-to
bounds-out-to c =
    let a = c.args in
    let f = made a.block.now a.from in
    omega (arith, kept a.out.now c.loop-i.out a.to c.loop-i.i f c.loop-i.invariant.1)

pub loop-i-preserved : goal.loop-i-preserved
loop-i-preserved c =
    let a = c.args in
    let i = c.loop-i.i in
    let x = c.relabel_term.result in (
      search rules,
      ap (λ (l : List ℕ). set l (a.to + i) x) c.loop-i.invariant.1
          ∙ sets_more a.out.now a.to i (made a.block.now a.from) x c.relabel_term.ensures,
    )

pub shape_of-out : goal.shape_of-out
shape_of-out c =
    let a = c.args in
    kept a.out.now c.loop-i.out a.to c.loop-i.i (made a.block.now a.from) c.loop-i.invariant.1

pub returns : goal.returns
unfolding relabel_side
returns c =
    let a = c.args in
    let b = a.block.now in
    let e : c.loop-i.i ≡ positions b = omega arith in (
      omega arith,
      c.loop-i.invariant.1
          ∙ ap (λ (k : ℕ). sets a.out.now a.to (tabulate k (made b a.from))) e,
    )
