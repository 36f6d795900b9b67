-- Every list that reaches a goal has a shortcut: a list of fewer rules than there are states that reaches a goal at no
-- more cost (`shortcut`). A longer list comes to some state twice, and the rules in between are cut out. The table of
-- least costs rests on it.
use mathlib.Core.Path.{◌≡◌}
use mathlib.Core.Logic.{⊎_elim}
use mathlib.Core.Bool.{true}
use mathlib.Core.List.{List, [], ◌∷◌, ◌++◌}
use Prim.Native.Nat.{ℕ, zero, suc, ◌≤◌, ◌<◌}
use native.Mathlib.Omega.{arith}
use lib.ListN.{length, take, drop, length-append, length-take, length-drop}
use Rattle.basics.proofs.Comparing.{below?}
use Rattle.basics.proofs.Pigeonhole.{pigeonhole}
use Rattle.distances.specs.Graphs.{Graph, reaches, total_cost}
use Rattle.distances.proofs.Reaching.{reaches-cons, reaches-intro}

-- a list of fewer than n rules that reaches a goal from u at no more cost
pub record Shortcut (g : Graph) (u : ℕ) (rs : List ℕ) (n : ℕ) : Type 0 where
  pub list : List ℕ
  pub goal : reaches g u list ≡ true
  pub cost : total_cost g list ≤ total_cost g rs
  pub short : length list < n

-- the state after the first i rules of the list, or after all
abbrev after : Graph → ℕ → List ℕ → ℕ → ℕ
after g u rs zero = u
after g u [] (suc i) = u
after g u (r ∷ rs) (suc i) = after g (g.step u r) rs i

module _ (g : Graph) where
  after-in : (rs : List ℕ) (u : ℕ) → u < g.states → reaches g u rs ≡ true → (i : ℕ) → after g u rs i < g.states
  after-in rs u l w zero = l
  after-in [] u l w (suc i) = l
  after-in (r ∷ rs) u l w (suc i) =
      let (a, v, w') = reaches-cons g u r rs w in
      after-in rs (g.step u r) v w' i

  -- the rules behind reach a goal from there
  reaches-after :
      (rs : List ℕ) (u : ℕ) → reaches g u rs ≡ true → (i : ℕ) → reaches g (after g u rs i) (drop i rs) ≡ true
  reaches-after rs u w zero = w
  reaches-after [] u w (suc i) = w
  reaches-after (r ∷ rs) u w (suc i) = reaches-after rs (g.step u r) (reaches-cons g u r rs w).2 i

  -- and so do the first i rules with others behind them that do
  reaches-join :
      (rs : List ℕ) (u : ℕ) → reaches g u rs ≡ true
      → (i : ℕ) (qs : List ℕ) → reaches g (after g u rs i) qs ≡ true → reaches g u (take i rs ++ qs) ≡ true
  reaches-join rs u w zero qs k = k
  reaches-join [] u w (suc i) qs k = k
  reaches-join (r ∷ rs) u w (suc i) qs k =
      let (a, v, w') = reaches-cons g u r rs w in
      reaches-intro g u r (take i rs ++ qs) a v (reaches-join rs (g.step u r) w' i qs k)

  -- what is cut out costs nothing any more
  cost-drop : (rs : List ℕ) (j : ℕ) → total_cost g (drop j rs) ≤ total_cost g rs
  cost-drop rs zero = omega arith
  cost-drop [] (suc j) = omega arith
  cost-drop (r ∷ rs) (suc j) = let ih = cost-drop rs j in omega arith

  cost-cut : (rs : List ℕ) (i j : ℕ) → i ≤ j → total_cost g (take i rs ++ drop j rs) ≤ total_cost g rs
  cost-cut rs zero j l = cost-drop rs j
  cost-cut rs (suc i) zero l = absurd (omega arith)
  cost-cut [] (suc i) (suc j) l = omega arith
  cost-cut (r ∷ rs) (suc i) (suc j) l = let ih = cost-cut rs i j (omega arith) in omega arith

  module _ (u : ℕ) (l : u < g.states) where
    shorter : (rs : List ℕ) → reaches g u rs ≡ true → g.states ≤ length rs → Shortcut g u rs (length rs)
    shorter rs w h =
        let p = pigeonhole g.states (after g u rs) (λ i m. after-in rs u l w i) in
        let i = p.once in
        let j = p.again in
        let o = p.order in
        let m = p.within in
        record {
          list = take i rs ++ drop j rs;
          goal = reaches-join rs u w i (drop j rs) (rw p.equal (reaches-after rs u w j));
          cost = cost-cut rs i j (omega arith);
          short = simp (length-append, length-take, length-drop) (omega arith);
        }

    -- by the length
    shortcut-of : (k : ℕ) (rs : List ℕ) → length rs ≤ k → reaches g u rs ≡ true → Shortcut g u rs g.states
    shortcut-of zero rs h w = record { list = rs; goal = w; cost = omega arith; short = omega arith }
    shortcut-of (suc k) rs h w =
        ⊎_elim (λ b. record { list = rs; goal = w; cost = omega arith; short = b })
        (λ b.
        let q = shorter rs w b in
        let m = q.short in
        let c = q.cost in
        let p = shortcut-of k q.list (omega arith) q.goal in
        let d = p.cost in
        record { list = p.list; goal = p.goal; cost = omega arith; short = p.short })
        (below? (length rs) g.states)

    pub shortcut : (rs : List ℕ) → reaches g u rs ≡ true → Shortcut g u rs g.states
    shortcut rs w = shortcut-of (length rs) rs (omega arith) w
