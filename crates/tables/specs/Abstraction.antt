-- The relabelled exercise as a graph over the ranks of its states (`graph_of`), of a relabelled block a. A table has
-- one entry per rank; the test and the filled table are stated over this graph. The inner functions ask for a
-- relabelled block (`Relabelled`), compiled (`Ready`).
use Rattle.std.specs.Prelude.{◌≡◌, ℕ, true, cond, List}
use Rattle.blocks.specs.Layout.{rules, cost_of, abstract_states}
use Rattle.blocks.specs.Validity.{Valid}
use Rattle.blocks.specs.States.{state_ok, abstract_ok}
use Rattle.psvn.specs.Rules.{applies, step, meets}
use Rattle.psvn.specs.Relabelling.{relabel_state}
use Rattle.psvn.specs.Ranks.{rank, unrank}
use Rattle.words.specs.Compiled.{Weighted, Compiled}
use Rattle.distances.specs.Graphs.{Graph}

-- the rank of the state that rule r takes the state of rank u to; no rank where it does not apply
unfoldable pub step_rank : List ℕ → ℕ → ℕ → ℕ
step_rank a u r = cond (applies a r (unrank a u)) (rank a (step a r (unrank a u))) (abstract_states a)

abbrev pub graph_of : List ℕ → Graph
graph_of a =
    record {
      states = abstract_states a;
      rules = rules a;
      step = step_rank a;
      cost = cost_of a;
      goal = λ u. meets a (unrank a u);
    }

-- a valid block whose states are its abstract states, each its own relabelled state
pub record Relabelled (a : List ℕ) : Type 0 where
  pub valid : Valid a
  pub abstract : (u : List ℕ) → state_ok a u ≡ abstract_ok a u
  pub same : (u : List ℕ) → state_ok a u ≡ true → relabel_state a u ≡ u

-- and the arrays are compiled from it
pub record Ready (a code weights : List ℕ) : Type 0 where
  pub relabelled : Relabelled a
  pub compiled : Compiled a code
  pub weighted : Weighted a weights
