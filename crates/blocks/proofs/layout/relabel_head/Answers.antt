-- `blocks::layout::relabel_head` meets its contract.
use mathlib.Core.Path.{◌≡◌, refl, ap, ap₂, ◌∙◌}
use mathlib.Core.List.{List, [], ◌∷◌}
use Prim.Native.Nat.{ℕ, ◌+◌}
use native.Mathlib.Omega.{arith}
use lib.ListN.{length, get_or, set, length-set}
use lib.Seq.{sets, length-sets}
use Rattle.basics.specs.Lists.{tabulate}
use Rattle.basics.proofs.Lists.{sets_more, sets_behind}
use Rattle.blocks.specs.Layout.{head_byte, positions, abstracts, rules, goals, relabel_head}
use Rattle.blocks.proofs.Offsets.{relabel-head-length}
use Rattle.blocks.proofs.layout.relabel_head.Goals as goal

pub bounds-out-0 : goal.bounds-out-0
unfolding head_byte
bounds-out-0 c = omega (arith, relabel-head-length c.args.block.now)

pub bounds-out-1 : goal.bounds-out-1
unfolding head_byte
bounds-out-1 c =
    simp length-set (omega (arith, relabel-head-length c.args.block.now))

pub bounds-out-2 : goal.bounds-out-2
unfolding head_byte
bounds-out-2 c =
    simp length-set (omega (arith, relabel-head-length c.args.block.now))

pub bounds-out-3 : goal.bounds-out-3
unfolding head_byte
bounds-out-3 c =
    simp length-set (omega (arith, relabel-head-length c.args.block.now))

pub bounds-out-4 : goal.bounds-out-4
unfolding head_byte
bounds-out-4 c =
    simp length-set (omega (
      arith,
      relabel-head-length c.args.block.now,
    ))

-- one map byte more
one_more :
    (l : List ℕ) (x : ℕ) {out : List ℕ} {k : ℕ}
    → out ≡ sets l 5 (tabulate x (λ y. y)) → k ≡ x → set out (5 + k) x ≡ sets l 5 (tabulate (x + 1) (λ y. y))
one_more l x e q =
    ap₂ (λ (o : List ℕ) (i : ℕ). set o (5 + i) x) e q ∙ sets_more l 5 x (λ y. y) x refl

-- the buffer keeps its length
kept :
    (o begun out : List ℕ) (x : ℕ)
    → out ≡ sets begun 5 (tabulate x (λ y. y)) → length begun ≡ length o → length out ≡ length o
kept o begun out x e h = ap length e ∙ length-sets begun 5 (tabulate x (λ y. y)) ∙ h

pub bounds-out-from : goal.bounds-out-from
unfolding head_byte
bounds-out-from c =
    omega (
      arith,
      kept c.args.out.now _ _ c.loop-x.x c.loop-x.invariant (simp length-set),
      relabel-head-length c.args.block.now,
    )

pub loop-x-preserved : goal.loop-x-preserved
loop-x-preserved c =
    let b = c.args.block.now in
    let o = c.args.out.now in
    let begun = sets o 0 (get_or b 0 0 ∷ get_or b 2 0 ∷ get_or b 2 0 ∷ get_or b 3 0 ∷ get_or b 4 0 ∷ []) in
    one_more begun c.loop-x.x c.loop-x.invariant (omega arith)

pub shape_of-out : goal.shape_of-out
shape_of-out c = kept c.args.out.now _ _ c.loop-x.x c.loop-x.invariant (simp length-set)

pub returns : goal.returns
unfolding relabel_head head_byte
returns c =
    let b = c.args.block.now in
    let o = c.args.out.now in
    let head = positions b ∷ abstracts b ∷ abstracts b ∷ rules b ∷ goals b ∷ [] in
    let e : c.loop-x.x ≡ abstracts b = omega arith in record {
      value = omega (arith, relabel-head-length b);
      out_after = sets_behind o 0 head (tabulate (abstracts b) (λ y. y)) {m = sets o 0 head} refl refl
          (c.loop-x.invariant ∙ ap (λ (k : ℕ). sets (sets o 0 head) 5 (tabulate k (λ y. y))) e);
    }
