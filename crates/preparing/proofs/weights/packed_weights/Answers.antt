-- `preparing::weights::packed_weights` meets its contract.
use mathlib.Core.Path.{sym, ap, subst, ◌∙◌}
use mathlib.Core.List.{List}
use Prim.Native.Nat.{ℕ, suc, ◌-◌, ◌<◌}
use native.Mathlib.Omega.{arith}
use Rattle.compiling.proofs.WeightsPlaced.{zeros}
use Rattle.blocks.specs.Validity.{Valid}
use Rattle.maps.specs.Maps.{further_maps, entries_before}
use Rattle.preparing.specs.Weights.{MapPlaced}
use Rattle.preparing.proofs.WeightLaws.{packed_none, begin-less, further-packed, own-packed}
use borrow.Author.Rules.{rules}
use Rattle.preparing.proofs.weights.packed_weights.Goals as goal

pub further_maps-i-requires : goal.further_maps-i-requires
further_maps-i-requires c =
    (c.requires.valid 0 (omega arith)).sized.headed

pub loop-i-init : goal.loop-i-init
loop-i-init c =
    let e = c.further_maps-i.ensures in (
      search rules,
      c.all_entries-begin.ensures.0 ∙ sym (ap (λ (i : ℕ). entries_before c.args.block.now c.args.maps.now (suc i)) e),
      packed_none c.requires _ _ _ (omega (arith, e)) (zeros 256),
    )

pub entries_of-begin-requires : goal.entries_of-begin-requires
entries_of-begin-requires c =
    let l = c.loop-i in
    let low : l.i - 1 < further_maps c.args.block.now c.args.maps.now =
    omega (arith, l.invariant.0, c.loop-i-test.true) in
    ((c.requires.valid 0 (omega arith)).sized, low, (c.requires.valid (suc (l.i - 1)) low).sized.headed.sizes.k_low)

pub overflow_sub-begin : goal.overflow_sub-begin
overflow_sub-begin c =
    let l = c.loop-i in
    (begin-less c.requires l.i c.loop-i-test.true l.invariant.0 l.begin _ l.invariant.1 c.entries_of-begin.ensures).0

pub under-requires : goal.under-requires
under-requires c =
    let l = c.loop-i in
    ((c.requires.valid 0 (omega arith)).sized, omega (arith, l.invariant.0, c.loop-i-test.true))

pub place_map-requires : goal.place_map-requires
place_map-requires c =
    let l = c.loop-i in
    let low : l.i - 1 < further_maps c.args.block.now c.args.maps.now =
    omega (arith, l.invariant.0, c.loop-i-test.true) in
    let below =
    begin-less c.requires l.i c.loop-i-test.true l.invariant.0 l.begin _ l.invariant.1 c.entries_of-begin.ensures in
    (subst Valid (sym (c.bytes.ensures ∙ c.under.ensures)) (c.requires.valid (suc (l.i - 1)) low), below.2)

pub loop-i-preserved : goal.loop-i-preserved
loop-i-preserved c =
    let l = c.loop-i in
    let below =
    begin-less c.requires l.i c.loop-i-test.true l.invariant.0 l.begin _ l.invariant.1 c.entries_of-begin.ensures in
    let placed =
    subst (λ (e : List ℕ). MapPlaced e (l.begin - c.entries_of-begin.result) l.singles c.place_map.new.singles)
    (c.bytes.ensures ∙ c.under.ensures) c.place_map.ensures in (
      omega (arith, l.invariant.0),
      below.1,
      further-packed c.requires l.i c.loop-i-test.true l.invariant.0 _ _ _ below.1 l.invariant.2 placed,
    )

pub place_map-requires-2 : goal.place_map-requires-2
place_map-requires-2 c = (c.requires.valid 0 (omega arith), omega arith)

pub returns : goal.returns
returns c =
    let l = c.loop-i in
    own-packed c.requires l.i _ _ (omega (arith, c.loop-i-test.false)) l.invariant.2 c.place_map-2.ensures
