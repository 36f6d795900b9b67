-- A finite graph whose edges are rules with costs: the states are numbers, `step` says where a rule leads.
-- Which lists of rules reach a goal (`reaches`), what they cost (`total_cost`), and the least such cost (`Least`,
-- `LeastTable`), for lists of any length.
use Rattle.std.specs.Prelude.{◌≡◌, ◌⊎◌, Bool, true, ◌&&◌, List, [], ◌∷◌, ℕ, ◌+◌, ◌≤◌, ◌<◌, ltb, length, get_or}
use Rattle.basics.specs.Marks.{mark}

-- States are the numbers below `states`, rules those below `rules`. `step u r` is the state that rule r takes u to;
-- it is no state where r does not apply.
pub record Graph : Type 0 where
  pub states : ℕ
  pub rules : ℕ
  pub step : ℕ → ℕ → ℕ
  pub cost : ℕ → ℕ
  pub goal : ℕ → Bool

-- rule r applies to the state u
abbrev pub leads_on : Graph → ℕ → ℕ → Bool
leads_on g u r = ltb (g.step u r) g.states

-- the list's rules apply in turn from u, and the last state is a goal
abbrev pub reaches : Graph → ℕ → List ℕ → Bool
reaches g u [] = g.goal u
reaches g u (r ∷ rs) = ltb r g.rules && (leads_on g u r && reaches g (g.step u r) rs)

-- the sum of the rules' costs
abbrev pub total_cost : Graph → List ℕ → ℕ
total_cost g [] = 0
total_cost g (r ∷ rs) = g.cost r + total_cost g rs

-- e is the total cost of some list that reaches a goal from u
abbrev pub Achieved : Graph → ℕ → ℕ → Type 0
Achieved g u e = (rs : List ℕ) × (reaches g u rs ≡ true) × (total_cost g rs ≡ e)

-- e is the least total cost of the lists, of any length, that reach a goal from u; or it is the mark and there are none
abbrev pub Least : Graph → ℕ → ℕ → Type 0
Least g u e =
    ((e ≡ mark) × ((rs : List ℕ) → reaches g u rs ≡ true → ⊥))
    ⊎ ((e < mark) × Achieved g u e × ((rs : List ℕ) → reaches g u rs ≡ true → e ≤ total_cost g rs))

-- one entry for each state, each the least total cost
pub record LeastTable (g : Graph) (t : List ℕ) : Type 0 where
  pub len : length t ≡ g.states
  pub least : (u : ℕ) → u < g.states → Least g u (get_or t u 0)
