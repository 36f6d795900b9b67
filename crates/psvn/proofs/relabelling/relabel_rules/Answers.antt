-- `psvn::relabelling::relabel_rules` meets its contract.
use mathlib.Core.Path.{◌≡◌, refl, sym, ap, ◌∙◌}
use mathlib.Core.List.{List}
use Prim.Native.Nat.{ℕ, ◌+◌}
use native.Mathlib.Omega.{arith}
use lib.ListN.{length, length-append}
use lib.Seq.{sets}
use Rattle.basics.specs.Lists.{joined}
use Rattle.basics.proofs.Lists.{joined-more, joined-within, sets_behind}
use Rattle.blocks.specs.Layout.{rules}
use Rattle.psvn.specs.Relabelling.{relabel_rule}
use borrow.Author.Rules.{rules as std_rules}
use Rattle.psvn.proofs.relabelling.relabel_rules.Goals as goal

pub loop-r-init : goal.loop-r-init
loop-r-init c = (search std_rules, refl, omega arith, refl)

pub relabel_rule-at-requires : goal.relabel_rule-at-requires
relabel_rule-at-requires c =
    let a = c.args in
    let b = a.block.now in
    let h = c.requires in (
      h.0,
      omega arith,
      omega (
        arith,
        joined-within (relabel_rule b) (rules b) c.loop-r.r (omega arith),
      ),
    )

pub loop-r-preserved : goal.loop-r-preserved
loop-r-preserved c =
    let a = c.args in
    let f = relabel_rule a.block.now in
    let r = c.loop-r.r in
    let inv = c.loop-r.invariant in
    let more = joined-more f r in (
      inv.0,
      c.relabel_rule-at.auto.out ∙ inv.1,
      omega (arith, ap length more, length-append (joined r f) (f r), c.relabel_rule-at.ensures.0),
      sets_behind a.out.now a.to (joined r f) (f r) inv.3 inv.2
          c.relabel_rule-at.ensures.1
          ∙ ap (sets a.out.now a.to) (sym more),
    )

pub shape_of-out : goal.shape_of-out
shape_of-out c = c.loop-r.invariant.1

pub returns : goal.returns
returns c =
    let a = c.args in
    let b = a.block.now in
    let inv = c.loop-r.invariant in
    let e : c.loop-r.r ≡ rules b = omega arith in
    let q = ap (λ (k : ℕ). joined k (relabel_rule b)) e in
    (inv.2 ∙ ap (λ (l : List ℕ). a.to + length l) q, inv.3 ∙ ap (sets a.out.now a.to) q)
