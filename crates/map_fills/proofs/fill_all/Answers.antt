-- `map_fills::fill_all` meets its contract.
use Rattle.std.proofs.Common.{◌≡◌, ℕ, suc, refl, sym, ap, ◌∙◌, add-one, arith}
use Rattle.basics.specs.Lists.{Bytes, joined, at_front}
use Rattle.basics.proofs.Lists.{front-over, front-behind, joined-within}
use Rattle.maps.specs.Maps.{further_maps, all_maps}
use Rattle.filling.specs.FilledTables.{filled}
use Rattle.map_tables.proofs.Places.{onward}
use Rattle.map_fills.specs.MapFills.{all_filled}
use Rattle.map_fills.proofs.AllFilled.{filled_at, filled-to}
use Rattle.map_fills.proofs.fill_all.Goals as goal

pub loop-i-preserved : goal.loop-i-preserved
loop-i-preserved c =
    let b = c.args.block.now in
    let maps = c.args.maps.now in
    let l = c.loop-i in
    let inside = c.loop-i-test.true in
    let first = c.fill.new.table in
    let tables = filled_at b maps in
    let small = c.type_inv.block in
    let bytes : Bytes b = λ k. omega (arith, small k) in
    let long = filled-to b maps bytes c.requires.0 (suc l.i) (omega arith) in (
      (onward b maps c.requires.0 l.i (omega arith) l.at l.invariant.0 _ c.entries_of-at.ensures).0,
      front-behind (joined (suc l.i) tables) (tables (suc l.i)) first (l.invariant.0 ∙ sym long) l.invariant.1 refl
          c.fill_further.ensures
          ∙ ap (λ (k : ℕ). at_front (joined (suc k) tables) first) (sym (add-one l.i)),
    )

-- the tables of all maps over what the first fill leaves, and over the lent table
pub returns : goal.returns
unfolding all_filled
returns c =
    let b = c.args.block.now in
    let maps = c.args.maps.now in
    let first = c.fill.new.table in
    let l = c.loop-i in
    let tables = filled_at b maps in
    let new = all_filled b maps in
    let e : l.i ≡ further_maps b maps = omega arith in
    l.invariant.1
    ∙ ap (λ (k : ℕ). at_front (joined (suc k) tables) first) e
    ∙ ap (at_front new) c.fill.ensures
    ∙ front-over new (filled b) c.args.table.now
    (omega (arith, joined-within tables (all_maps b maps) 0 (omega arith)))
