-- States of a block (`state_ok`, condition 8) and of its abstraction (`abstract_ok`): n labels, each below the count at
-- its position. The calls that take a state refuse by the first; tables and ranks are about the second.
use Rattle.std.specs.Prelude.{ℕ, Bool, ◌&&◌, List, ltb, eqb, length, get_or}
use Rattle.basics.specs.Bounded.{all}
use Rattle.blocks.specs.Layout.{positions, label_count, abstract_count}

-- exactly n labels, each below the count at its position
unfoldable pub labelled : ℕ → (ℕ → ℕ) → List ℕ → Bool
labelled n count s = eqb (length s) n && all n (λ i. ltb (get_or s i 0) (count i))

abbrev pub state_ok : List ℕ → List ℕ → Bool
state_ok b s = labelled (positions b) (label_count b) s

abbrev pub abstract_ok : List ℕ → List ℕ → Bool
abstract_ok b u = labelled (positions b) (abstract_count b) u
