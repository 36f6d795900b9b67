-- The table of the least costs of lists of at most m rules: no list of at most m rules that reaches a goal costs less
-- than the entry (`within-least`), and an entry that is not the mark is the cost of such a list (`within-found`) and at
-- most 255 m (`within-bound`). The table of least costs rests on these.
use mathlib.Core.Path.{◌≡◌, refl, ◌∙◌}
use mathlib.Core.Logic.{◌⊎◌, inl, inr, ⊎_elim, ◌≢◌}
use mathlib.Core.Bool.{Bool, true, false, cond}
use mathlib.Core.List.{List, [], ◌∷◌}
use Prim.Native.Nat.{ℕ, zero, suc, ◌+◌, ◌*◌, min, ◌≤◌, ◌<◌}
use native.Mathlib.Nat.{eq-or-lt_of_le, le_of_suc-le-suc, min-le_left, min-le_right, min-eq_left, min-eq_right}
use native.Mathlib.Omega.{arith}
use lib.Dec.{eqb}
use lib.ListN.{length, get_or}
use borrow.Author.Tests.{lt-ltb, ltb-true, eqb-true, eqb-false}
use Rattle.basics.specs.Marks.{mark}
use Rattle.basics.proofs.Comparing.{below?}
use Rattle.basics.proofs.Lists.{length-tabulate, get_or-tabulate}
use Rattle.distances.specs.Graphs.{Graph, leads_on, reaches, total_cost}
use Rattle.distances.specs.LeastCosts.{before, by_rule, least_by, least_within}
use Rattle.distances.specs.Filling.{Cheap}
use Rattle.distances.proofs.Reaching.{reaches-cons, reaches-intro}

before-le : (c f : ℕ) → before c f ≤ c + f
before-le c f = go (eqb f mark) refl
  where
    go : (x : Bool) → eqb f mark ≡ x → cond x mark (c + f) ≤ c + f
    go true e = omega (arith, eqb-true f mark e)
    go false e = omega arith

-- the least of the costs by the first k rules: at most each of them, and one of them
module _ (g : Graph) (t : List ℕ) (u : ℕ) where
  by-goal : (k : ℕ) → least_by g t u k ≤ cond (g.goal u) 0 mark
  unfolding least_by
  by-goal zero = omega arith
  by-goal (suc k) = let ih = by-goal k in omega arith

  by-rule : (k r : ℕ) → r < k → least_by g t u k ≤ by_rule g t u r
  unfolding least_by
  by-rule zero r l = absurd (omega arith)
  by-rule (suc k) r l =
      ⊎_elim (λ e. rw e (min-le_right (least_by g t u k) (by_rule g t u k)))
      (λ h. let ih = by-rule k r h in let m = min-le_left (least_by g t u k) (by_rule g t u k) in omega arith)
      (eq-or-lt_of_le (le_of_suc-le-suc l))

  by-found :
      (k : ℕ) → (least_by g t u k ≡ cond (g.goal u) 0 mark) ⊎ ((r : ℕ) × (r < k) × (least_by g t u k ≡ by_rule g t u r))
  unfolding least_by
  by-found zero = inl refl
  by-found (suc k) =
      ⊎_elim
      (λ h.
      let e : min (least_by g t u k) (by_rule g t u k) ≡ least_by g t u k = min-eq_left (omega arith) in
      ⊎_elim (λ q. inl (e ∙ q)) (λ q. inr (q.0, omega (arith, q.1), e ∙ q.2)) (by-found k))
      (λ h. inr (k, omega arith, min-eq_right h)) (below? (least_by g t u k) (by_rule g t u k))

module _ (g : Graph) where
  pub length-within : (m : ℕ) → length (least_within g m) ≡ g.states
  unfolding least_within
  length-within zero = length-tabulate g.states (λ u. cond (g.goal u) 0 mark)
  length-within (suc m) = length-tabulate g.states (λ u. least_by g (least_within g m) u g.rules)

  module _ (u : ℕ) (l : u < g.states) where
    entry-none : get_or (least_within g zero) u 0 ≡ cond (g.goal u) 0 mark
    unfolding least_within
    entry-none = get_or-tabulate g.states (λ u. cond (g.goal u) 0 mark) u l

    entry_more : (m : ℕ) → get_or (least_within g (suc m)) u 0 ≡ least_by g (least_within g m) u g.rules
    unfolding least_within
    entry_more m = get_or-tabulate g.states (λ u. least_by g (least_within g m) u g.rules) u l

  pub within-least :
      (m : ℕ) (rs : List ℕ) (u : ℕ) → u < g.states → length rs ≤ m → reaches g u rs ≡ true
      → get_or (least_within g m) u 0 ≤ total_cost g rs
  within-least zero [] u l h w = rw (entry-none u l, w) (omega arith)
  within-least zero (r ∷ rs) u l h w = absurd (omega arith)
  within-least (suc m) [] u l h w = rw (entry_more u l m) (rw w at (by-goal g (least_within g m) u g.rules))
  within-least (suc m) (r ∷ rs) u l h w =
      let (i, v, w') = reaches-cons g u r rs w in
      let ih = within-least m rs (g.step u r) v (omega arith) w' in
      let b = rw (lt-ltb (g.step u r) g.states v) at (by-rule g (least_within g m) u g.rules r i) in
      omega (arith, entry_more u l m, b, before-le (g.cost r) (get_or (least_within g m) (g.step u r) 0))

  -- if e is not the mark, it is the cost of a list of at most m rules that reaches a goal from u
  abbrev pub Found : ℕ → ℕ → ℕ → Type 0
  Found m u e = e ≢ mark → (rs : List ℕ) × (length rs ≤ m) × (reaches g u rs ≡ true) × (total_cost g rs ≡ e)

  found-goal : (m u : ℕ) → Found m u (cond (g.goal u) 0 mark)
  found-goal m u = go (g.goal u) refl
    where
      go : (x : Bool) → g.goal u ≡ x → Found m u (cond x 0 mark)
      go true e n = ([], omega arith, e, refl)
      go false e n = absurd (n refl)

  found-rule :
      (m : ℕ) (t : List ℕ) → ((v : ℕ) → v < g.states → Found m v (get_or t v 0))
      → (u r : ℕ) → r < g.rules → Found (suc m) u (by_rule g t u r)
  found-rule m t ih u r i = go (leads_on g u r) refl (eqb (get_or t (g.step u r) 0) mark) refl
    where
      go :
          (x : Bool) → leads_on g u r ≡ x → (y : Bool) → eqb (get_or t (g.step u r) 0) mark ≡ y
          → Found (suc m) u (cond x (cond y mark (g.cost r + get_or t (g.step u r) 0)) mark)
      go false d y e n = absurd (n refl)
      go true d true e n = absurd (n refl)
      go true d false e n =
          let v = ltb-true (g.step u r) g.states d in
          let (rs, l, w, c) = ih (g.step u r) v (eqb-false (get_or t (g.step u r) 0) mark e) in
          (r ∷ rs, omega arith, reaches-intro g u r rs i v w, omega arith)

  pub within-found : (m u : ℕ) → u < g.states → Found m u (get_or (least_within g m) u 0)
  within-found zero u l = rw (entry-none u l) (found-goal zero u)
  within-found (suc m) u l =
      rw (entry_more u l m)
      (⊎_elim (λ e. rw e (found-goal (suc m) u))
      (λ q. rw q.2 (found-rule m (least_within g m) (within-found m) u q.0 q.1))
      (by-found g (least_within g m) u g.rules))

  module _ (cheap : Cheap g) where
    -- a list costs at most 255 for each of its rules
    pub cost-bound : (rs : List ℕ) (u : ℕ) → reaches g u rs ≡ true → total_cost g rs ≤ 255 * length rs
    cost-bound [] u w = omega arith
    cost-bound (r ∷ rs) u w =
        let (i, v, w') = reaches-cons g u r rs w in
        omega (arith, cheap r i, cost-bound rs (g.step u r) w')

    pub within-bound :
        (m u : ℕ) → u < g.states → get_or (least_within g m) u 0 ≢ mark → get_or (least_within g m) u 0 ≤ 255 * m
    within-bound m u l n =
        let (rs, h, w, c) = within-found m u l n in
        omega (arith, cost-bound rs u w)
