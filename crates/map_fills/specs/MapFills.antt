-- The filled tables of all maps, behind one another (`all_filled`), and what they promise (`LeastEntries`): each entry
-- is the least cost under its map, and every table passes the lower-bound test. The call that fills tables is stated
-- with these.
use Rattle.std.specs.Prelude.{◌≡◌, true, List, ℕ, ◌<◌, get_or}
use Rattle.basics.specs.Lists.{joined}
use Rattle.blocks.specs.Layout.{abstract_states}
use Rattle.psvn.specs.Relabelling.{relabel_block}
use Rattle.psvn.specs.Ranks.{unrank}
use Rattle.maps.specs.Maps.{all_maps, exercise_at}
use Rattle.filling.specs.FilledTables.{filled, LeastCost}
use Rattle.map_tables.specs.MapTables.{table_at, all_pass}

-- the filled table of the exercise under each map
unfoldable pub all_filled : List ℕ → List ℕ → List ℕ
all_filled b maps = joined (all_maps b maps) (λ j. filled (exercise_at b maps j))

-- each entry of the table of map j is the least cost, in the exercise relabelled under that map, from the abstract
-- state of its rank; and every table passes the lower-bound test under its own map
pub record LeastEntries (b maps t : List ℕ) : Type 0 where
  pub least :
      (j k : ℕ) → j < all_maps b maps → k < abstract_states (exercise_at b maps j)
      → LeastCost (relabel_block (exercise_at b maps j)) (unrank (exercise_at b maps j) k)
      (get_or (table_at b maps t j) k 0)
  pub passing : all_pass b maps t ≡ true
