-- `maps::maps_ok` meets its contract.
use mathlib.Core.Path.{◌≡◌, sym, ap, ◌∙◌}
use Prim.Native.Nat.{ℕ, suc}
use native.Mathlib.Omega.{arith}
use lib.Dec.{leb}
use borrow.Author.Count.{below_more}
use borrow.Author.Tests.{le-leb, lt-leb}
use borrow.Author.Rules.{rules}
use Rattle.basics.specs.Bounded.{all}
use Rattle.basics.proofs.Bounded.{all-passed, all-false}
use Rattle.basics.proofs.Truth.{and_intro, and-right-false}
use Rattle.maps.specs.Maps.{further_maps, further_ok, entries_before, all_entries, maps_ok}
use Rattle.maps.proofs.MapLaws.{further-abstracts-is, further-parts, entries-more, table-within}
use Rattle.maps.proofs.maps_ok.Goals as goal

pub loop-i-init : goal.loop-i-init
loop-i-init c = (search rules, search rules, search rules, λ k l. absurd (omega arith))

pub returns-then-not-further_ok : goal.returns-then-not-further_ok
unfolding maps_ok
returns-then-not-further_ok c =
    let a = c.args in
    let b = a.block.now in
    let maps = a.maps.now in
    let fails = sym c.further_ok.ensures ∙ c.if-not-further_ok.true in
    sym (rw (all-false (further_ok b maps) (further_maps b maps) c.loop-i.i (omega arith) fails))

pub entries_of-entries-requires : goal.entries_of-entries-requires
entries_of-entries-requires c =
    let b = c.args.block.now in
    let maps = c.args.maps.now in
    let i = c.loop-i.i in
    let low = (further-parts b maps i (sym c.further_ok.ensures ∙ c.if-not-further_ok.false)).0 in
    (c.requires, search rules, omega (arith, low, further-abstracts-is b maps c.requires i))

pub returns-then-entries-gt-MOST_STATES : goal.returns-then-entries-gt-MOST_STATES
unfolding maps_ok
returns-then-entries-gt-MOST_STATES c =
    let a = c.args in
    let b = a.block.now in
    let maps = a.maps.now in
    let more = table-within b maps (suc c.loop-i.i) (omega arith) in
    sym (and-right-false (all (further_maps b maps) (further_ok b maps)) (leb (all_entries b maps) 16384)
    (lt-leb (all_entries b maps) 16384 (omega arith)))

pub loop-i-preserved : goal.loop-i-preserved
loop-i-preserved c =
    let a = c.args in
    let inv = c.loop-i.invariant in (
      inv.0,
      omega (arith, entries-more a.block.now a.maps.now c.loop-i.i),
      search rules,
      below_more _ _ inv.3 (sym c.further_ok.ensures ∙ c.if-not-further_ok.false),
    )

pub returns : goal.returns
unfolding maps_ok
returns c =
    let a = c.args in
    let b = a.block.now in
    let maps = a.maps.now in
    let e : c.loop-i.i ≡ further_maps b maps = omega arith in
    let all_fit = c.loop-i.invariant.1 ∙ ap (λ (k : ℕ). entries_before b maps (suc k)) e in
    sym (and_intro (all (further_maps b maps) (further_ok b maps)) (leb (all_entries b maps) 16384)
    (all-passed (further_ok b maps) (further_maps b maps) c.loop-i.i (omega arith) c.loop-i.invariant.3)
    (le-leb (all_entries b maps) 16384 (omega arith)))
