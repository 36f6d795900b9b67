-- `least_costs` is the table of the least costs of lists of any length (`least-costs`): a list that reaches a goal has
-- a shortcut of no more rules than were counted. So it is the one exact table (`least-costs-only`), and it passes the
-- lower-bound test (`least-costs-pass`). What the fill answers rests on these.
use mathlib.Core.Path.{◌≡◌}
use mathlib.Core.Logic.{⊎_elim, inl, inr, ◌≢◌}
use mathlib.Core.Bool.{true}
use mathlib.Core.List.{List}
use Prim.Native.Nat.{ℕ, ◌≤◌, ◌<◌}
use native.Mathlib.Omega.{arith}
use lib.ListN.{get_or}
use Rattle.basics.specs.Marks.{mark}
use Rattle.basics.proofs.Comparing.{same?}
use Rattle.distances.specs.Graphs.{Graph, reaches, total_cost, Least, LeastTable}
use Rattle.distances.specs.LowerBounds.{passes}
use Rattle.distances.specs.LeastCosts.{least_within, least_costs}
use Rattle.distances.specs.Filling.{Cheap}
use Rattle.distances.proofs.Exactness.{table-one, least-passes}
use Rattle.distances.proofs.Shortcuts.{shortcut}
use Rattle.distances.proofs.WithinSteps.{length-within, within-least, within-found, within-bound, cost-bound}

module _ (g : Graph) (cheap : Cheap g) (small : g.states ≤ 16384) where
  -- no list that reaches a goal from u costs less than the entry, and there is none where the entry is the mark
  lower :
      (u : ℕ) → u < g.states → (rs : List ℕ) → reaches g u rs ≡ true
      → get_or (least_within g g.states) u 0 ≤ total_cost g rs
  lower u l rs w =
      let q = shortcut g u l rs w in
      omega (arith, q.cost, within-least g g.states q.list u l (omega (arith, q.short)) q.goal)

  not-marked :
      (u : ℕ) → u < g.states → (rs : List ℕ) → reaches g u rs ≡ true → get_or (least_within g g.states) u 0 ≢ mark
  not-marked u l rs w =
      let q = shortcut g u l rs w in
      let b = lower u l q.list q.goal in
      omega (arith, q.short, cost-bound g cheap q.list u q.goal)

  least_at : (u : ℕ) → u < g.states → Least g u (get_or (least_within g g.states) u 0)
  least_at u l =
      ⊎_elim (λ e. inl (e, λ rs w. not-marked u l rs w e))
      (λ n.
      let (rs, h, w, c) = within-found g g.states u l n in
      inr (omega (arith, within-bound g cheap g.states u l n), (rs, w, c), lower u l))
      (same? (get_or (least_within g g.states) u 0) mark)

  pub least-costs : LeastTable g (least_costs g)
  unfolding least_costs
  least-costs = record { len = length-within g g.states; least = least_at }

  pub least-costs-only : (t : List ℕ) → LeastTable g t → t ≡ least_costs g
  least-costs-only t a = table-one g t (least_costs g) a least-costs

  pub least-costs-pass : passes g (least_costs g) ≡ true
  least-costs-pass = least-passes g (least_costs g) least-costs
