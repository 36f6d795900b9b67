-- The lower-bound test by rules and goals, each at every state (`RulePasses`, `GoalPasses`), and over lists of ranks
-- (`EdgesPass`, `Zeros`).
use Rattle.std.specs.Prelude.{◌≡◌, true, ◌≢◌, List, ℕ, ◌+◌, ◌≤◌, ◌<◌, get_or}
use Rattle.basics.specs.Marks.{mark}
use Rattle.blocks.specs.Layout.{abstract_states}
use Rattle.psvn.specs.Rules.{goal_met}
use Rattle.psvn.specs.Ranks.{unrank}
use Rattle.distances.specs.Graphs.{Graph}

-- an entry f after a rule of cost c that is not the mark stands behind an entry e that is not, and is at most c plus f
abbrev pub Bounded : ℕ → ℕ → ℕ → Type 0
Bounded e c f = f ≢ mark → (e ≢ mark) × (e ≤ c + f)

-- the ranks of a list are below a bound: below a table's length they have entries
abbrev pub InTable : ℕ → (ℕ → ℕ) → ℕ → Type 0
InTable bound ranks n = (j : ℕ) → j < n → ranks j < bound

-- the entries at the ranks of two lists are so, in pairs
abbrev pub EdgesPass : List ℕ → (ℕ → ℕ) → (ℕ → ℕ) → ℕ → ℕ → Type 0
EdgesPass t sources targets n c =
    (j : ℕ) → j < n → Bounded (get_or t (sources j) 0) c (get_or t (targets j) 0)

-- the entries at the ranks of a list are 0
abbrev pub Zeros : List ℕ → (ℕ → ℕ) → ℕ → Type 0
Zeros t sources n = (j : ℕ) → j < n → get_or t (sources j) 0 ≡ 0

-- condition (ii) for rule r at every state
abbrev pub RulePasses : Graph → List ℕ → ℕ → Type 0
RulePasses g t r =
    (u : ℕ) → u < g.states → g.step u r < g.states → Bounded (get_or t u 0) (g.cost r) (get_or t (g.step u r) 0)

-- condition (i) at every state that meets goal i
abbrev pub GoalPasses : List ℕ → List ℕ → ℕ → Type 0
GoalPasses a t i = (u : ℕ) → u < abstract_states a → goal_met a i (unrank a u) ≡ true → get_or t u 0 ≡ 0
