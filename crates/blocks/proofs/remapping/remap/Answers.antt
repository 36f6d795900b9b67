-- `blocks::remapping::remap` meets its contract.
use Rattle.std.proofs.Common.{◌≡◌, ap, ap₂, ◌∙◌, List, ℕ, suc, ◌+◌, get_or, add-one, arith, rules}
use lib.ListN.{set, length-set}
use Rattle.basics.specs.Lists.{at_front}
use Rattle.basics.specs.Placing.{placed}
use Rattle.basics.proofs.Lists.{set_front}
use Rattle.basics.proofs.Placing.{placed-more, placed-front}
use Rattle.blocks.specs.Layout.{head_length, labels}
use Rattle.blocks.specs.Validity.{Sized}
use Rattle.blocks.specs.Remapping.{remapped}
use Rattle.blocks.proofs.Offsets.{block-short, map-inside}
use Rattle.blocks.proofs.remapping.remap.Goals as goal

pub slice_bounds-copy_from_slice-end : goal.slice_bounds-copy_from_slice-end
slice_bounds-copy_from_slice-end c = omega (arith, block-short c.args.block.now c.requires.0.headed)

pub loop-x-preserved : goal.loop-x-preserved
loop-x-preserved c =
    let m = c.args.map.now in
    let x = c.loop-x.x in
    ap (λ (o : List ℕ). set o (5 + x) (get_or m (x + 1) 0)) c.loop-x.invariant
    ∙ placed-more _ (λ y. head_length + y) (λ y. get_or m (suc y) 0) x (get_or m (x + 1) 0)
    (ap (λ (k : ℕ). get_or m k 0) (add-one x))

-- what the buffer holds in the end, where `begun` is the buffer that the block was copied to
written :
    (b m o begun out : List ℕ) (n : ℕ) → Sized b
    → out ≡ placed (set begun 2 (get_or m 0 0)) (λ y. head_length + y) (λ y. get_or m (suc y) 0) n
    → n ≡ labels b → begun ≡ at_front b o → out ≡ at_front (remapped b m) o
unfolding remapped
written b m o begun out n h w e f =
    let k = get_or m 0 0 in
    w
    ∙ ap₂ (λ (l : List ℕ) (n : ℕ). placed l (λ y. head_length + y) (λ y. get_or m (suc y) 0) n)
    (ap (λ (l : List ℕ). set l 2 k) f ∙ set_front b o 2 k (omega (arith, h.headed.long))) e
    ∙ placed-front (set b 2 k) o (λ y. head_length + y) (λ y. get_or m (suc y) 0) (labels b) (λ x l.
    omega (arith, length-set b 2 k, map-inside b h x l))

pub returns : goal.returns
returns c =
    let a = c.args in
    written a.block.now a.map.now a.out.now _ c.loop-x.out c.loop-x.x c.requires.0 c.loop-x.invariant
    (omega arith) (search rules)
