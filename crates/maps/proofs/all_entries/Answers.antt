-- `maps::all_entries` meets its contract.
use mathlib.Core.Path.{◌≡◌, ap, ◌∙◌}
use Prim.Native.Nat.{ℕ, suc}
use native.Mathlib.Omega.{arith}
use borrow.Author.Rules.{rules}
use Rattle.blocks.specs.Layout.{abstract_states}
use Rattle.maps.specs.Maps.{further_maps, exercise_at, entries_before}
use Rattle.maps.proofs.MapLaws.{entries-more, table-within, counted, entries-whole}
use Rattle.maps.proofs.all_entries.Goals as goal
use Rattle.maps.proofs.all_entries.Goals.{After-entries_of-sum}

pub further_maps-count-requires : goal.further_maps-count-requires
further_maps-count-requires c = (c.requires.valid 0 (omega arith)).sized.headed

pub abstract_states-sum-requires : goal.abstract_states-sum-requires
abstract_states-sum-requires c = (c.requires.valid 0 (omega arith)).sized.headed

pub loop-i-init : goal.loop-i-init
loop-i-init c = (search rules, search rules)

pub entries_of-sum-requires : goal.entries_of-sum-requires
entries_of-sum-requires c =
    counted c.args.block.now c.args.maps.now c.requires c.loop-i.i (omega arith)

-- the entries of the next table, which are not cut off
more :
    (c : After-entries_of-sum)
    → c.entries_of-sum.result
    ≡ abstract_states (exercise_at c.args.block.now
    c.args.maps.now
    (suc c.loop-i.i))
more c =
    c.entries_of-sum.ensures
    ∙ entries-whole c.args.block.now c.args.maps.now c.requires c.loop-i.i (omega arith)

pub overflow_add-sum : goal.overflow_add-sum
overflow_add-sum c =
    omega (
      arith,
      more c,
      table-within c.args.block.now c.args.maps.now (suc c.loop-i.i) (omega arith),
      c.requires.small,
    )

pub loop-i-preserved : goal.loop-i-preserved
loop-i-preserved c =
    let a = c.args in (
      c.loop-i.invariant.0,
      omega (arith, more c, entries-more a.block.now a.maps.now c.loop-i.i),
    )

pub returns : goal.returns
returns c =
    let b = c.args.block.now in
    let maps = c.args.maps.now in
    let e : c.loop-i.i ≡ further_maps b maps = omega arith in
    let all = c.loop-i.invariant.1 ∙ ap (λ (k : ℕ). entries_before b maps (suc k)) e in
    (all, omega (arith, all, c.requires.small))
