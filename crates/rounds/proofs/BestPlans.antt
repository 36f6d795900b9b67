-- Every answer of the search is right (`search-right`): a plan found is the best, 'no plan' leaves none within the
-- limits, 'spent' has no visit left. A threshold is never above the cost of an open list that reaches a goal
-- (`raised`), and the next one is higher (`higher`). What is promised of the search rests on these.
use mathlib.Core.Path.{◌≡◌, refl, sym, ◌∙◌}
use mathlib.Core.Logic.{◌⊎◌, inl, inr}
use mathlib.Core.Bool.{Bool, true, false}
use mathlib.Core.List.{List, [], ◌∷◌}
use Prim.Native.Nat.{ℕ, zero, suc, ◌+◌, ◌≤◌, ◌<◌}
use native.Mathlib.Omega.{arith}
use lib.Dec.{leb}
use borrow.Author.Tests.{leb-true, leb-false}
use Rattle.rounds.specs.Systems.{System, Estimate, mark, at, Within, Lawful, Passing}
use Rattle.rounds.specs.OpenLists.{total_cost, Open, Reaches}
use Rattle.rounds.specs.Rounds.{Allowance, allows, Progress, on, hit, stop, Answer, found, no_plan, spent}
use Rattle.rounds.specs.Rounds.{conclude, capped, begin, rounds, rounds_from, search}
use Rattle.rounds.specs.Promises.{Floor, BestPlan}
use Rattle.rounds.proofs.OpenListLaws.{Trail, open-trail, trail-open, trail-run}
use Rattle.rounds.proofs.EstimateLaws.{mark-at, at-injective, within-mono}
use Rattle.rounds.proofs.ListSets.{Short}
use Rattle.rounds.proofs.OneRound.{Edge, Hits, Passed, Struck, Says, round-says}
use Rattle.rounds.proofs.ReachingLists.{visited-trail, visited-cost, edge-above, EdgeUnder, bound, reach}

module _ (Y : System) (D : ℕ) (s : Y.State) where
  -- what an answer says
  abbrev pub Right : Allowance → ℕ → Answer → Type 0
  Right A B (found u p c) = (c ≡ total_cost Y p) × BestPlan Y D s B p
  Right A B (no_plan u) = Floor Y D s (suc B)
  Right A B (spent u) = allows A u ≡ false

module _ (Y : System) (h : Y.State → Estimate) (D : ℕ) (s : Y.State) (T : ℕ) where
  -- the next threshold is higher
  pub higher : (n : ℕ) → Passed Y h T (s ∷ []) s 0 (Short D) mark (at n) → T < n
  higher n a = go a.attained
    where
      go : (at n ≡ mark) ⊎ ((p : List ℕ) × (f : ℕ) × Short D p × Edge Y h T (s ∷ []) s 0 p f × (at n ≡ at f)) → T < n
      go (inl e) = absurd (mark-at n (sym e))
      go (inr (p, f, l, w, e)) = omega (arith, at-injective n f e, edge-above Y h T (s ∷ []) s 0 p f w)

module _
    (Y : System) (h : Y.State → Estimate) {Legal : Y.State → Type 0}
    (L : Lawful Y Legal) (P : Passing Y Legal h) (D : ℕ)
    (s : Y.State) (good : Legal s) where
  module _ (T : ℕ) where
    -- an open list that reaches a goal: visited, or an edge at no more than its cost
    met : (q : List ℕ) → Open Y D s q → Reaches Y s q → Hits Y h T (s ∷ []) s 0 q ⊎ EdgeUnder Y h T (s ∷ []) s 0 q
    met q o w =
        elim (reach Y h T L P (s ∷ []) s 0 q w.final good (open-trail Y D s q w.final o w.runs) w.meets)
        [ inl v ↦ inl (w.final, v, w.meets) | inr v ↦ inr v ]

    -- visited where it costs at most T
    cheap-hits : (q : List ℕ) → Open Y D s q → Reaches Y s q → total_cost Y q ≤ T → Hits Y h T (s ∷ []) s 0 q
    cheap-hits q o w l =
        elim (met q o w)
        [ inl v ↦ v | inr v ↦ absurd (omega (arith, v.3, edge-above Y h T (s ∷ []) s 0 v.0 v.1 v.2)) ]

    -- a round that passes raises the floor to the least overshoot
    pub raised :
        (o : Estimate) → Passed Y h T (s ∷ []) s 0 (Short D) mark o → (q : List ℕ) → Open Y D s q → Reaches Y s q
        → Within o (total_cost Y q)
    raised o a q w r =
        elim (met q w r) [
          | inl v ↦ absurd (a.missed q w.short v)
          | inr v ↦
              within-mono o v.1 (total_cost Y q) (a.below v.0 v.1 (omega (arith, v.4, w.short)) v.2)
              (omega (arith, v.3))
        ]

    -- a plan that a round finds at a threshold that is no higher than the floor is the best
    struck :
        (B : ℕ) (p : List ℕ) (c : ℕ) → T ≤ B → Floor Y D s T → Struck Y h T (s ∷ []) s 0 (Short D) p c
        → (c ≡ total_cost Y p) × BestPlan Y D s B p
    struck B p c l fl a =
        let (t, v, g) = a.hits in
        let tr : Trail Y (s ∷ []) s p t = visited-trail Y h T L (s ∷ []) s 0 p t v in
        let low : 0 + total_cost Y p ≤ T = visited-cost Y h T (s ∷ []) s 0 p t (omega arith) v in (
          omega (arith, a.costs),
          record {
            open-list = trail-open Y D s p t tr a.inside;
            reaches = record { final = t; runs = trail-run Y (s ∷ []) s p t tr; meets = g };
            within = omega arith;
            cheapest = λ q o w. omega (arith, fl q o w);
            earliest = λ q o w e. a.first q o.short (cheap-hits q o w (omega arith));
          },
        )

    module _ (A : Allowance) (B : ℕ) where
      conclude-right :
          (x : Progress) (again : ℕ → ℕ → Answer) → T ≤ B → Floor Y D s T → Says Y h T A (s ∷ []) s 0 (Short D) mark x
          → ((n u : ℕ) → T < n → Floor Y D s n → Right Y D s A B (again n u)) → Right Y D s A B (conclude x again)
      unfolding conclude
      conclude-right (on u mark) again l fl a k = λ q o w. absurd (raised mark a q o w)
      conclude-right (on u (at n)) again l fl a k = k n u (higher Y h D s T n a) (raised (at n) a)
      conclude-right (hit u p c) again l fl a k = struck B p c l fl a
      conclude-right (stop u) again l fl a k = a

      capped-right :
          (b : Bool) (u : ℕ) (k : ℕ → Answer) → leb T B ≡ b → Floor Y D s T → (T ≤ B → Right Y D s A B (k u))
          → Right Y D s A B (capped b u k)
      unfolding capped
      capped-right true u k e fl r = r (leb-true T B e)
      capped-right false u k e fl r = λ q o w. omega (arith, fl q o w, leb-false T B e)

  rounds-right :
      (A : Allowance) (B n T u : ℕ) → suc B ≤ n + T → Floor Y D s T → Right Y D s A B (rounds Y h A D B s n T u)
  unfolding rounds
  rounds-right A B zero T u l fl = λ q o w. omega (arith, fl q o w)
  rounds-right A B (suc n) T u l fl =
      capped-right T A B (leb T B) u _ refl fl
      (λ b. conclude-right T A B _ _ b fl (round-says Y h T L A D s u)
      (λ m w lt fm. rounds-right A B n m w (omega arith) fm))

  -- the start's estimate is a floor; with a marked start there is no plan
  pub floor-start : (T : ℕ) → h s ≡ at T → Floor Y D s T
  floor-start T e q o w =
      let (j, x, y) = bound Y h L P s q w.final good w.runs w.meets in
      let z : T ≡ j = at-injective T j (sym e ∙ x) in
      omega arith

  none-start : h s ≡ mark → (q : List ℕ) → Reaches Y s q → ⊥
  none-start e q w =
      let (j, x, y) = bound Y h L P s q w.final good w.runs w.meets in
      mark-at j (sym e ∙ x)

  begin-right :
      (A : Allowance) (B : ℕ) (e : Estimate) → h s ≡ e → (k : ℕ → Answer)
      → ((T : ℕ) → Floor Y D s T → Right Y D s A B (k T))
      → Right Y D s A B (begin e k)
  unfolding begin
  begin-right A B mark e k r = λ q o w. absurd (none-start e q w)
  begin-right A B (at T) e k r = r T (floor-start T e)

  pub search-right : (A : Allowance) (B : ℕ) → Right Y D s A B (search Y h A D B s)
  unfolding search rounds_from
  search-right A B = begin-right A B (h s) refl _ (λ T fl. rounds-right A B (suc B) T 0 (omega arith) fl)
