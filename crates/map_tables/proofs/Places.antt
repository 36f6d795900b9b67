-- Where the table of a further map stands: it lies in the lent one (`lies-inside`, `lent-long`), the part that is lent
-- from its place on is the table (`lent-table`), and behind its entries stands the next one (`onward`); its place is a
-- small number (`place-small`).
-- The loops over all maps, in this crate and in the one that fills tables, rest on these.
use mathlib.Core.Path.{◌≡◌, ap, ◌∙◌}
use mathlib.Core.List.{List}
use Prim.Native.Nat.{ℕ, suc, ◌+◌, ◌-◌, ◌≤◌, ◌<◌, min}
use native.Mathlib.Omega.{arith}
use lib.ListN.{length, take, drop, length-drop}
use Rattle.basics.proofs.Lists.{rest-whole}
use Rattle.blocks.specs.Layout.{abstract_states}
use Rattle.maps.specs.Maps.{further_maps, exercise_at, entries_before, all_entries, Mapped}
use Rattle.maps.proofs.MapLaws.{table-within, entries-more, entries-whole}
use Rattle.map_tables.specs.MapTables.{table_at}

-- the block's own table, and the lent one
pub own-inside : (b maps : List ℕ) (room : ℕ) → all_entries b maps ≤ room → abstract_states b ≤ room
own-inside b maps room l = omega (arith, table-within b maps 0 (omega arith))

-- further map i, whose table stands at the place `at`
module _ (b maps : List ℕ) (h : Mapped b maps) (i : ℕ) (l : i < further_maps b maps)
    (at : ℕ) (e : at ≡ entries_before b maps (suc i)) where
  pub place-small : at ≤ 16384
  place-small = omega (arith, table-within b maps (suc i) l, h.small)

  -- with the entries counted
  pub onward :
      (n : ℕ) → n ≡ min (abstract_states (exercise_at b maps (suc i))) 16385
      → (at + n ≡ entries_before b maps (suc (i + 1))) × (at + n ≤ 16384)
  onward n c =
      let whole = c ∙ entries-whole b maps h i l in
      (omega (arith, entries-more b maps i), omega (arith, table-within b maps (suc i) l, h.small))

  module _ (t : List ℕ) (room : all_entries b maps ≤ length t) where
    pub lies-inside : at + abstract_states (exercise_at b maps (suc i)) ≤ length t
    lies-inside = omega (arith, table-within b maps (suc i) l)

    pub lent-table : take (length t - at) (drop at t) ≡ table_at b maps t (suc i)
    lent-table = rest-whole at t ∙ ap (λ (k : ℕ). drop k t) e

    pub lent-long : abstract_states (exercise_at b maps (suc i)) ≤ length (take (length t - at) (drop at t))
    lent-long = omega (arith, lies-inside, ap length (rest-whole at t), length-drop at t)
