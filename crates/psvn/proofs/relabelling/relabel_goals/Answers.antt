-- `psvn::relabelling::relabel_goals` meets its contract.
use mathlib.Core.Path.{◌≡◌, refl, sym, ap, ◌∙◌}
use Prim.Native.Nat.{ℕ, ◌<◌}
use native.Mathlib.Omega.{arith}
use lib.ListN.{length, length-append}
use lib.Seq.{sets}
use borrow.Author.Rules.{rules}
use Rattle.basics.specs.Lists.{joined}
use Rattle.basics.proofs.Lists.{joined-more, joined-within, sets_behind}
use Rattle.blocks.specs.Layout.{goals, side_at}
use Rattle.blocks.specs.Validity.{side_ok}
use Rattle.psvn.specs.Relabelling.{relabel_side, relabel_goal}
use Rattle.blocks.proofs.Offsets.{goal-inside}
use Rattle.blocks.proofs.Accepted.{goal-side}
use Rattle.psvn.proofs.Relabelled.{goal-length}
use Rattle.psvn.proofs.relabelling.relabel_goals.Goals as goal
use Rattle.psvn.proofs.relabelling.relabel_goals.Goals.{After-slice_known-in-loop-g-1}

pub loop-g-init : goal.loop-g-init
loop-g-init c = (search rules, refl, omega arith, refl)

pub relabel_side-at-requires : goal.relabel_side-at-requires
relabel_side-at-requires c =
    let a = c.args in
    let b = a.block.now in
    let h = c.requires.0 in
    let g = c.loop-g.g in
    let l : g < goals b = omega arith in (
      h.sized,
      omega (arith, goal-inside b h.sized g l),
      ap (λ (at : ℕ). side_ok b (side_at b at)) c.goal_at.ensures.0 ∙ goal-side b h g l,
      omega (arith, joined-within (relabel_goal b) (goals b) g l, goal-length b g),
    )

-- what `relabel_side` writes in a turn
written :
    (c : After-slice_known-in-loop-g-1)
    → c.relabel_side-at.new.out
    ≡ sets c.loop-g.out c.loop-g.at
    (relabel_goal c.args.block.now
    c.loop-g.g)
unfolding relabel_goal
written c =
    let b = c.args.block.now in
    let l = c.loop-g in
    c.relabel_side-at.ensures.1
    ∙ ap (λ (at : ℕ). sets l.out l.at (relabel_side b (side_at b at)))
    c.goal_at.ensures.0

pub loop-g-preserved : goal.loop-g-preserved
loop-g-preserved c =
    let a = c.args in
    let b = a.block.now in
    let f = relabel_goal b in
    let g = c.loop-g.g in
    let inv = c.loop-g.invariant in
    let more = joined-more f g in (
      inv.0,
      c.relabel_side-at.auto.out ∙ inv.1,
      omega (
        arith,
        ap length more,
        length-append (joined g f) (f g),
        c.relabel_side-at.ensures.0,
        goal-length b g,
      ),
      sets_behind a.out.now a.to (joined g f) (f g) inv.3 inv.2 (written c)
          ∙ ap (sets a.out.now a.to) (sym more),
    )

pub shape_of-out : goal.shape_of-out
shape_of-out c = c.loop-g.invariant.1

pub returns : goal.returns
returns c =
    let a = c.args in
    let b = a.block.now in
    let e : c.loop-g.g ≡ goals b = omega arith in
    c.loop-g.invariant.3 ∙ ap (λ (k : ℕ). sets a.out.now a.to (joined k (relabel_goal b))) e
