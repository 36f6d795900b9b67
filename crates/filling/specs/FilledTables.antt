-- The filled table of an exercise (`filled`), and what an entry of it is: `LeastCost`, where costs are bytes
-- (`CostBytes`). The call that fills a table is stated with the first; the second says what it means in the terms of
-- the language. `Lowered` is what the fast pass leaves.
use Rattle.std.specs.Prelude.{◌≡◌, ◌⊎◌, true, List, ℕ, ◌≤◌, ◌<◌, take}
use Rattle.basics.specs.Lists.{at_front}
use Rattle.basics.specs.Marks.{mark}
use Rattle.blocks.specs.Layout.{rules, cost_of, abstract_states}
use Rattle.psvn.specs.Runs.{reaches, total_cost}
use Rattle.psvn.specs.Relabelling.{relabel_block}
use Rattle.distances.specs.LeastCosts.{least_costs}
use Rattle.distances.specs.Filling.{Good}
use Rattle.tables.specs.Abstraction.{graph_of}

-- the filled table
unfoldable pub filled : List ℕ → List ℕ
filled b = least_costs (graph_of (relabel_block b))

-- the costs are bytes, as in every block that a call is lent
abbrev pub CostBytes : List ℕ → Type 0
CostBytes b = (r : ℕ) → r < rules b → cost_of b r ≤ 255

-- e is the least total cost of the lists of rules, of any length, that
-- reach a goal from the state u; or it is the mark and there are none
abbrev pub LeastCost : List ℕ → List ℕ → ℕ → Type 0
LeastCost a u e =
    ((e ≡ mark) × ((rs : List ℕ) → reaches a u rs ≡ true → ⊥))
    ⊎ ((e < mark) × ((rs : List ℕ) × (reaches a u rs ≡ true) × (total_cost a rs ≡ e))
    × ((rs : List ℕ) → reaches a u rs ≡ true → e ≤ total_cost a rs))

-- what the fast pass makes of a table t: entries that are the mark or the cost of some list that reaches a goal, 0 at
-- goals, stand at the front, and the rest is as it was
pub record Lowered (b t t' : List ℕ) : Type 0 where
  pub good : Good (graph_of (relabel_block b)) (take (abstract_states b) t')
  pub kept : t' ≡ at_front (take (abstract_states b) t') t
