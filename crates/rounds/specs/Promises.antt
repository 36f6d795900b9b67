-- What is promised of an answer (`Kept`, demand 3), and which plan is found (`BestPlan`); the search's own promises are
-- made of these. A round by the figures of its lists (document 01): those it visits (`InRound`), those one rule past
-- them, with an overshoot (`Overshoot`), and the next threshold (`NextThreshold`); `Figures` shows the rounds to be
-- that.
use Rattle.std.specs.Prelude.{◌≡◌, ◌⊎◌, ◌↔◌, List, ◌∷◌, ◌++◌, ℕ, ◌≤◌, ◌<◌, length}
use Rattle.rounds.specs.Systems.{System, Estimate, mark, at, Within}
use Rattle.rounds.specs.OpenLists.{Before, total_cost, Open, Reaches, figure}
use Rattle.rounds.specs.Rounds.{Answer, free, found, no_plan, spent, visits, search}

module _ (Y : System) (D : ℕ) (s : Y.State) where
  -- no open list that reaches a goal costs less than T
  abbrev pub Floor : ℕ → Type 0
  Floor T = (q : List ℕ) → Open Y D s q → Reaches Y s q → T ≤ total_cost Y q

  -- p is, of all cheapest open lists that reach a goal, the first, and within the cost limit B
  pub record BestPlan (B : ℕ) (p : List ℕ) : Type 0 where
    pub open-list : Open Y D s p
    pub reaches : Reaches Y s p
    pub within : total_cost Y p ≤ B
    pub cheapest : Floor (total_cost Y p)
    pub earliest : (q : List ℕ) → Open Y D s q → Reaches Y s q → total_cost Y q ≡ total_cost Y p → Before p q

module _ (Y : System) (h : Y.State → Estimate) (T : ℕ) where
  -- p and all its prefixes have a figure of at most T
  unfoldable pub InRound : Y.State → List ℕ → Type 0
  InRound s p = (q z : List ℕ) → p ≡ q ++ z → Within (figure Y h s q) T

  -- f is an overshoot of p: p is open with figure f, above T, and its proper prefixes all have a figure of at most T
  pub record Overshoot (d : ℕ) (s : Y.State) (p : List ℕ) (f : ℕ) : Type 0 where
    pub open-list : Open Y d s p
    pub figured : figure Y h s p ≡ at f
    pub above : T < f
    pub proper : (q : List ℕ) (i : ℕ) (z : List ℕ) → p ≡ q ++ i ∷ z → Within (figure Y h s q) T

  -- o is the next threshold after a round at T with step limit d: the least overshoot, the mark if there is none
  pub record NextThreshold (d : ℕ) (s : Y.State) (o : Estimate) : Type 0 where
    pub least : (p : List ℕ) (f : ℕ) → Overshoot d s p f → Within o f
    pub one_of : (o ≡ mark) ⊎ ((p : List ℕ) × (f : ℕ) × Overshoot d s p f × (o ≡ at f))

-- demand 3, for the answer a from s with step limit D, cost limit B and visit allowance v
pub record Kept (Y : System) (h : Y.State → Estimate) (D B v : ℕ) (s : Y.State) (a : Answer) : Type 0 where
  -- 'spent' exactly when the rounds, run to their end with no allowance, make more visits than the allowance
  pub spent_iff : (a ≡ spent v) ↔ (v < visits (search Y h free D B s))
  -- in every other case the answer, its visits included, is that of the rounds with no allowance
  pub otherwise : visits (search Y h free D B s) ≤ v → a ≡ search Y h free D B s
  -- in every other case a plan is given exactly when some list within
  -- the limits reaches a goal, and 'no plan' exactly when none does
  pub plan_iff :
      visits (search Y h free D B s) ≤ v → ((u : ℕ) × (p : List ℕ) × (c : ℕ) × (a ≡ found u p c)) ↔
      ((q : List ℕ) × Reaches Y s q × (length q ≤ D) × (total_cost Y q ≤ B))
  pub none_iff :
      visits (search Y h free D B s) ≤ v
      → ((u : ℕ) × (a ≡ no_plan u)) ↔ ((q : List ℕ) → Reaches Y s q → length q ≤ D → total_cost Y q ≤ B → ⊥)
  -- a plan given is the plan found, told with its own cost, and every other list within the step limit that reaches a
  -- goal costs at least as much
  pub best : (u c : ℕ) (p : List ℕ) → a ≡ found u p c → (c ≡ total_cost Y p) × BestPlan Y D s B p
  pub cheapest :
      (u c : ℕ) (p : List ℕ) → a ≡ found u p c → (q : List ℕ) → Reaches Y s q → length q ≤ D → c ≤ total_cost Y q
