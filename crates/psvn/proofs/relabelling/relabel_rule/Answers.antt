-- `psvn::relabelling::relabel_rule` meets its contract.
-- The cost and the two sides are written behind one another.
use mathlib.Core.Path.{◌≡◌, ap, ap₂, ◌∙◌}
use mathlib.Core.List.{List, ◌∷◌}
use Prim.Native.Nat.{ℕ, suc, ◌+◌}
use native.Mathlib.Numerals.{add-one}
use native.Mathlib.Omega.{arith}
use lib.ListN.{length, set, length-set, length-append}
use lib.Seq.{sets}
use Rattle.basics.proofs.Lists.{sets_behind}
use Rattle.blocks.specs.Layout.{cost_of, side_at, left_of, right_of}
use Rattle.blocks.specs.Validity.{side_ok}
use Rattle.psvn.specs.Relabelling.{relabel_side, relabel_rule}
use Rattle.blocks.proofs.Offsets.{left-inside, right-inside}
use Rattle.blocks.proofs.Accepted.{left-side, right_side}
use Rattle.psvn.proofs.Relabelled.{side-length, rule-length}
use Rattle.psvn.proofs.relabelling.relabel_rule.Goals as goal
use Rattle.psvn.proofs.relabelling.relabel_rule.Goals.{After-slice_known-3-1}

pub bounds-out-to : goal.bounds-out-to
bounds-out-to c =
    let a = c.args in
    omega (arith, rule-length a.block.now a.r)

pub relabel_side-middle-requires : goal.relabel_side-middle-requires
relabel_side-middle-requires c =
    let a = c.args in
    let b = a.block.now in
    let h = c.requires in (
      h.0.sized,
      omega (arith, left-inside b h.0.sized a.r h.1),
      ap (λ (at : ℕ). side_ok b (side_at b at)) c.left_at.ensures.0 ∙ left-side b h.0 a.r h.1,
      simp length-set (omega (arith, rule-length b a.r)),
    )

pub relabel_side-requires : goal.relabel_side-requires
relabel_side-requires c =
    let a = c.args in
    let b = a.block.now in
    let h = c.requires in (
      h.0.sized,
      omega (arith, right-inside b h.0.sized a.r h.1),
      ap (λ (at : ℕ). side_ok b (side_at b at)) c.right_at.ensures.0 ∙ right_side b h.0 a.r h.1,
      omega (arith, rule-length b a.r, simp length-set at c.relabel_side-middle.auto.out),
    )

pub shape_of-out : goal.shape_of-out
shape_of-out c = c.relabel_side.auto.out ∙ (simp length-set at c.relabel_side-middle.auto.out)

-- the cost and the relabelled left side
abbrev front : After-slice_known-3-1 → List ℕ
front c =
    let b = c.args.block.now in
    cost_of b c.args.r ∷ relabel_side b (left_of b c.args.r)

-- the buffer after the first side
fronted :
    (c : After-slice_known-3-1)
    → c.relabel_side-middle.new.out
    ≡ sets c.args.out.now
    c.args.to
    (front c)
fronted c =
    let a = c.args in
    let b = a.block.now in
    let written : ℕ → ℕ → ℕ → List ℕ =
    λ cost at left. sets (set a.out.now a.to cost) at (relabel_side b (side_at b left)) in
    c.relabel_side-middle.ensures.1
    ∙ ap (λ (cost : ℕ). written cost (a.to + 1) c.left_at.result)
    c.cost.ensures
    ∙ ap₂ (written (cost_of b a.r)) (add-one a.to) c.left_at.ensures.0

pub returns : goal.returns
unfolding relabel_rule
returns c =
    let a = c.args in
    let b = a.block.now in
    let left = relabel_side b (left_of b a.r) in
    let right = relabel_side b (right_of b a.r) in
    let first = c.relabel_side-middle in
    let middle : first.result ≡ a.to + suc (length left) = omega (arith, side-length b (left_of b a.r)) in
    let second =
    c.relabel_side.ensures.1
    ∙ ap (λ (at : ℕ). sets first.new.out first.result (relabel_side b (side_at b at)))
    c.right_at.ensures.0 in (
      omega (arith, length-append left right, side-length b (left_of b a.r), side-length b (right_of b a.r)),
      sets_behind a.out.now a.to (front c) right
          (fronted c) middle second,
    )
