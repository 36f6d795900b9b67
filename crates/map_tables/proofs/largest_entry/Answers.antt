-- `map_tables::largest_entry` meets its contract.
use Rattle.std.proofs.Common.{◌≡◌, ℕ, List, suc, ◌+◌, ◌-◌, max, sym, ap, ap₂, ◌∙◌, arith}
use Rattle.basics.specs.Sums.{largest_from}
use Rattle.maps.specs.Maps.{further_maps, exercise_at}
use Rattle.maps.proofs.MapLaws.{counted}
use Rattle.tables.specs.Tables.{estimate}
use Rattle.map_tables.specs.MapTables.{entry_at, largest_entry}
use Rattle.map_tables.proofs.Largest.{largest-next}
use Rattle.map_tables.proofs.Places.{lent-table, onward}
use Rattle.map_tables.proofs.largest_entry.Goals as goal

pub loop-i-init : goal.loop-i-init
unfolding largest_entry
loop-i-init c =
    let a = c.args in
    let b = a.block.now in
    let entries = entry_at b a.maps.now a.table.now a.state.now in
    let left : further_maps b a.maps.now - 0 ≡ further_maps b a.maps.now = omega arith in (
      omega (arith, c.abstract_states-at.ensures.0),
      ap₂ (λ (x n : ℕ). max x (largest_from entries 1 n)) c.estimate-largest.ensures left,
    )

pub entries_of-at-requires : goal.entries_of-at-requires
entries_of-at-requires c = counted c.args.block.now c.args.maps.now c.requires.0 c.loop-i.i (omega arith)

pub loop-i-preserved : goal.loop-i-preserved
loop-i-preserved c =
    let a = c.args in
    let b = a.block.now in
    let maps = a.maps.now in
    let t = a.table.now in
    let s = a.state.now in
    let l = c.loop-i in
    let count = further_maps b maps in
    let entries = entry_at b maps t s in
    let rest = largest_from entries (suc (l.i + 1)) (count - (l.i + 1)) in
    let lent = lent-table b maps c.requires.0 l.i (omega arith) l.at l.invariant.0 t c.requires.2 in
    let entry : c.further_entry.result ≡ entries (suc l.i) =
    c.further_entry.ensures ∙ ap (λ (t : List ℕ). estimate (exercise_at b maps (suc l.i)) t s) lent in (
      (onward b maps c.requires.0 l.i (omega arith) l.at l.invariant.0 _ c.entries_of-at.ensures).0,
      ap (λ (x : ℕ). max x rest) (c.max-largest.ensures ∙ ap (max l.largest) entry)
          ∙ sym (largest-next entries l.largest l.i count (omega arith))
          ∙ l.invariant.1,
    )
