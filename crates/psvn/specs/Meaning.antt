-- What matching and applying mean, in the document's words: a state matches a side (`Matched`), is what a rule makes of
-- another (`Successor`), meets the goal that is told (`LowestMet`, `NoneMet`, `GoalMeans`). That the definitions are
-- just these is shown in proofs/MatchingLaws, Successors and GoalLaws. Demands and promises are stated with these.
use Rattle.std.specs.Prelude.{◌≡◌, ◌↔◌, true, false, List, ℕ, ◌≤◌, ◌<◌, get_or}
use Rattle.blocks.specs.Layout.{goals}
use Rattle.psvn.specs.Rules.{goal_met, no_goal}

-- "its label equals each constant and positions with the same variable hold equal labels; a dash tests nothing"
pub record Matched (n : ℕ) (side : ℕ → ℕ) (s : List ℕ) : Type 0 where
  pub constant : (i : ℕ) → i < n → side i < 16 → get_or s i 0 ≡ side i
  pub same : (i j : ℕ) → i < n → j < n → 16 ≤ side i → side i < 32 → side j ≡ side i → get_or s i 0 ≡ get_or s j 0

-- "On the right a constant is written, a variable gives its bound label, a dash keeps the old label. All new labels
-- come from the old state": t is the new state, s the old one
pub record Successor (n : ℕ) (left right : ℕ → ℕ) (s t : List ℕ) : Type 0 where
  pub constant : (i : ℕ) → i < n → right i < 16 → get_or t i 0 ≡ right i
  pub variable :
      (i j : ℕ) → i < n → j < n → 16 ≤ right i → right i < 32 → left j ≡ right i → get_or t i 0 ≡ get_or s j 0
  pub dash : (i : ℕ) → i < n → right i ≡ 255 → get_or t i 0 ≡ get_or s i 0

-- "the lowest number of a met goal": the state meets goal g, and no goal below it
pub record LowestMet (b s : List ℕ) (g : ℕ) : Type 0 where
  pub goal : g < goals b
  pub met : goal_met b g s ≡ true
  pub none_below : (k : ℕ) → k < g → goal_met b k s ≡ false

-- the state meets no goal
abbrev pub NoneMet : List ℕ → List ℕ → Type 0
NoneMet b s = (g : ℕ) → g < goals b → goal_met b g s ≡ false

-- the byte told for the goal that the state meets: the lowest number of a met goal, or FF, just where none is met
pub record GoalMeans (b s : List ℕ) (byte : ℕ) : Type 0 where
  pub none_iff : (byte ≡ no_goal) ↔ NoneMet b s
  pub lowest : (byte ≡ no_goal → ⊥) → LowestMet b s byte
