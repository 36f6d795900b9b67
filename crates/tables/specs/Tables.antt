-- Tables of an exercise: the estimate of a state (`estimate`) and the lower-bound test (`passes_test`).
-- `LowerBound` is what a passing table promises of an estimate, rule by rule, and all that a search may use; it makes
-- the estimate a lower bound of plans (`NeverTooHigh`).
use Rattle.std.specs.Prelude.{◌≡◌, Bool, true, List, ◌≢◌, ℕ, ◌+◌, ◌≤◌, ◌<◌, get_or}
use Rattle.basics.specs.Marks.{mark}
use Rattle.blocks.specs.Layout.{rules, cost_of}
use Rattle.blocks.specs.States.{state_ok}
use Rattle.psvn.specs.Rules.{applies, step, meets}
use Rattle.psvn.specs.Runs.{total_cost, reaches}
use Rattle.psvn.specs.Relabelling.{relabel_block, relabel_state}
use Rattle.psvn.specs.Ranks.{rank}
use Rattle.distances.specs.LowerBounds.{passes}
use Rattle.tables.specs.Abstraction.{graph_of}

-- the entry of an abstract state
unfoldable pub entry : List ℕ → List ℕ → List ℕ → ℕ
entry b t u = get_or t (rank b u) 0

-- the estimate of a state (document 01: of a yard state): the entry of its relabelled state
unfoldable pub estimate : List ℕ → List ℕ → List ℕ → ℕ
estimate b t s = entry b t (relabel_state b s)

-- the table passes the lower-bound test
unfoldable pub passes_test : List ℕ → List ℕ → Bool
passes_test b t = passes (graph_of (relabel_block b)) t

-- the estimate h is 0 at goals, and at most a rule's cost above the estimate after it, where that is not the mark; then
-- h is not the mark either
pub record LowerBound (b : List ℕ) (h : List ℕ → ℕ) : Type 0 where
  pub goal : (s : List ℕ) → state_ok b s ≡ true → meets b s ≡ true → h s ≡ 0
  pub rule :
      (s : List ℕ) (r : ℕ) → state_ok b s ≡ true → r < rules b → applies b r s ≡ true
      → h (step b r s) ≢ mark → (h s ≢ mark) × (h s ≤ cost_of b r + h (step b r s))

-- the estimate h of a state is at most the cost of each list, of any length, that reaches a goal from it, and the mark
-- only where no list does
abbrev pub NeverTooHigh : List ℕ → (List ℕ → ℕ) → Type 0
NeverTooHigh b h =
    (s : List ℕ) → state_ok b s ≡ true → (rs : List ℕ) → reaches b s rs ≡ true → (h s ≢ mark) × (h s ≤ total_cost b rs)
