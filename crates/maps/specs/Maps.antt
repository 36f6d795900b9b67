-- Further maps of an exercise (document 02, F-2), lent as records of K and L map bytes behind one another: how many
-- there are (`further_maps`), the exercise under each map (`exercise_at`), where its table begins (`entries_before`),
-- and what turns them back, 14 and 15 (`map_conditions`). `Mapped` says what holds once block and maps are accepted.
use Rattle.std.specs.Prelude.{◌≡◌, ℕ, zero, suc, ◌*◌, ◌/◌, ◌%◌, ◌≤◌, Bool, ◌&&◌, List, [], ◌∷◌, ◌++◌, leb, ltb, eqb}
use Rattle.std.specs.Prelude.{length, get_or, drop}
use Rattle.basics.specs.Bounded.{all}
use Rattle.basics.specs.Sums.{sum_to}
use Rattle.refusals.specs.Answers.{Condition, ◌unless◌}
use Rattle.blocks.specs.Layout.{labels, abstract_states}
use Rattle.blocks.specs.Validity.{within, block_conditions, Valid}
use Rattle.blocks.specs.Remapping.{remapped}

-- how many bytes a further map has: K, and a byte for each label
abbrev pub map_width : List ℕ → ℕ
map_width b = suc (labels b)

-- how many further maps are lent; an empty slice lends none
unfoldable pub further_maps : List ℕ → List ℕ → ℕ
further_maps b maps = length maps / map_width b

-- how many maps there are, the block's own first
abbrev pub all_maps : List ℕ → List ℕ → ℕ
all_maps b maps = suc (further_maps b maps)

-- further map i: its record stands at the front; its K, and its byte for the label x
abbrev pub further_map : List ℕ → List ℕ → ℕ → List ℕ
further_map b maps i = drop (i * map_width b) maps

abbrev pub further_abstracts : List ℕ → List ℕ → ℕ → ℕ
further_abstracts b maps i = get_or (further_map b maps i) 0 0

abbrev pub further_byte : List ℕ → List ℕ → ℕ → ℕ → ℕ
further_byte b maps i x = get_or (further_map b maps i) (suc x) 0

-- the exercise under map j: the block itself under its own map, which is map 0, and an ordinary block with K and map
-- bytes replaced under a further one
abbrev pub exercise_at : List ℕ → List ℕ → ℕ → List ℕ
exercise_at b maps zero = b
exercise_at b maps (suc i) = remapped b (further_map b maps i)

-- how many entries the tables of the first j maps have together: where the table of map j begins
abbrev pub entries_before : List ℕ → List ℕ → ℕ → ℕ
entries_before b maps j = sum_to (λ i. abstract_states (exercise_at b maps i)) j

-- how many entries all tables have together
abbrev pub all_entries : List ℕ → List ℕ → ℕ
all_entries b maps = entries_before b maps (all_maps b maps)

-- 14: at most three maps, and K and L bytes for each
unfoldable pub maps_whole : List ℕ → List ℕ → Bool
maps_whole b maps = eqb (length maps % map_width b) 0 && leb (further_maps b maps) 3

-- 15: each further K from 1 to L, its map bytes below it, and all tables together at most 16,384 entries
unfoldable pub further_ok : List ℕ → List ℕ → ℕ → Bool
further_ok b maps i =
    within 1 (further_abstracts b maps i) (labels b)
    && all (labels b) (λ x. ltb (further_byte b maps i x) (further_abstracts b maps i))

unfoldable pub maps_ok : List ℕ → List ℕ → Bool
maps_ok b maps = all (further_maps b maps) (further_ok b maps) && leb (all_entries b maps) 16384

unfoldable pub map_conditions : List ℕ → List ℕ → List Condition
map_conditions b maps = 14 unless maps_whole b maps ∷ 15 unless maps_ok b maps ∷ []

-- 3 to 7, then 14 and 15
unfoldable pub exercise_conditions : List ℕ → List ℕ → List Condition
exercise_conditions b maps = block_conditions b ++ map_conditions b maps

-- the block and its further maps are accepted: the exercise under each map is a valid block, and the tables are small
pub record Mapped (b maps : List ℕ) : Type 0 where
  pub whole : length maps ≡ further_maps b maps * map_width b
  pub few : further_maps b maps ≤ 3
  pub valid : (j : ℕ) → j ≤ further_maps b maps → Valid (exercise_at b maps j)
  pub small : all_entries b maps ≤ 16384
