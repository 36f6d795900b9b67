-- Ranks, position 0 highest: of an abstract state (`rank`, base K; `unrank` gives the state of a rank) and of a state
-- (`state_rank`, base L; `unrank_state`). Tables have one entry per rank of an abstract state; predecessors are told in
-- the rank order of states.
use Rattle.std.specs.Prelude.{ℕ, List}
use Rattle.basics.specs.Digits.{value_to, digits, span}
use Rattle.blocks.specs.Layout.{positions, label_count, abstract_count}

unfoldable pub rank : List ℕ → List ℕ → ℕ
rank b u = value_to (abstract_count b) u (positions b)

unfoldable pub unrank : List ℕ → ℕ → List ℕ
unrank b k = digits (abstract_count b) (positions b) k

-- base L
unfoldable pub state_rank : List ℕ → List ℕ → ℕ
state_rank b s = value_to (label_count b) s (positions b)

unfoldable pub unrank_state : List ℕ → ℕ → List ℕ
unrank_state b k = digits (label_count b) (positions b) k

-- how many states there are: L to the power n
unfoldable pub state_count : List ℕ → ℕ
state_count b = span (label_count b) (positions b)
