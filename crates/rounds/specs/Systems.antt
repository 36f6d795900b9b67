-- Transition systems (`System`) and estimates of the cost to a goal (`Estimate`), with what the search asks of the two
-- (`Lawful`, `Passing`). A figure is a cost plus an estimate (`plus`); the mark, for 'no path', makes none. All
-- definitions of the search stand on these.
use Rattle.std.specs.Prelude.{◌≡◌, Bool, true, ℕ, ◌+◌, ◌≤◌, ◌<◌, min}
use Rattle.std.proofs.Math.Option.{Option, some}

-- Rules are the numbers below `rules`. A rule that does not apply to a
-- state gives none. `same` is the test whether two states are equal.
pub record System : Type 1 where
  pub State : Type 0
  pub same : State → State → Bool
  pub rules : ℕ
  pub step : ℕ → State → Option State
  pub cost : ℕ → ℕ
  pub goal : State → Bool

-- an estimate, and a figure: the mark, or a number
pub data Estimate : Type 0 where
  mark : Estimate
  at : ℕ → Estimate

-- what is asked of a system: `same` tests equality, only numbers below `rules` are rules, and no rule leads out of the
-- good states, those that the estimate speaks of
pub record Lawful (Y : System) (Legal : Y.State → Type 0) : Type 0 where
  pub same_refl : (s : Y.State) → Y.same s s ≡ true
  pub same_eq : (s t : Y.State) → Y.same s t ≡ true → s ≡ t
  pub numbered : (r : ℕ) (s t : Y.State) → Y.step r s ≡ some t → r < Y.rules
  pub stays : (r : ℕ) (s t : Y.State) → Legal s → Y.step r s ≡ some t → Legal t

-- what is asked of an estimate: the two conditions of the lower-bound test, at the good states
pub record Passing (Y : System) (Legal : Y.State → Type 0) (h : Y.State → Estimate) : Type 0 where
  pub at_goal : (s : Y.State) → Legal s → Y.goal s ≡ true → h s ≡ at 0
  pub at_step :
      (r : ℕ) (s t : Y.State) (m : ℕ) → Legal s → Y.step r s ≡ some t → h t ≡ at m
      → (k : ℕ) × (h s ≡ at k) × (k ≤ Y.cost r + m)

-- the figure of a cost and an estimate: none with the mark
abbrev pub plus : ℕ → Estimate → Estimate
plus g mark = mark
plus g (at m) = at (g + m)

-- e is a number, and at most f
abbrev pub Within : Estimate → ℕ → Type 0
Within mark f = ⊥
Within (at m) f = m ≤ f

-- the least overshoot so far, with one more figure
unfoldable pub lower : ℕ → Estimate → Estimate
lower f mark = at f
lower f (at n) = at (min f n)
