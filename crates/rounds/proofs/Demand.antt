-- What is promised of the search, for any lawful system and any passing estimate: demand 3 of document 01 (`kept`), by
-- `found-best`, `found-cheapest`, `no-plan-none`, `finds`, `finds-none` and `spent_iff`; every passing estimate gives
-- the same plan (`same-plan`, `same-found`, `same_none`); a threshold is never above the cheapest cost
-- (`threshold_low`). The search call's promises rest on these.
use mathlib.Core.Path.{◌≡◌, refl, ap, ap₂, subst, sym, ◌∙◌}
use mathlib.Core.Logic.{◌⊎◌, inl, inr, ◌↔◌}
use mathlib.Core.Bool.{true≢false}
use mathlib.Core.List.{List, [], ◌∷◌}
use Prim.Native.Nat.{ℕ, suc, ◌≤◌, ◌<◌}
use native.Mathlib.Omega.{arith}
use lib.ListN.{length}
use Rattle.basics.proofs.Comparing.{below?}
use Rattle.rounds.specs.Systems.{System, Estimate, at, Lawful, Passing}
use Rattle.rounds.specs.OpenLists.{Before, total_cost, Reaches}
use Rattle.rounds.specs.Rounds.{Allowance, free, upto, Answer, found, no_plan, spent, visits, search}
use Rattle.rounds.specs.Promises.{Floor, BestPlan, Kept}
use Rattle.rounds.specs.Thresholds.{RoundAt, first_round, further}
use Rattle.rounds.proofs.OpenListLaws.{shortcut}
use Rattle.rounds.proofs.OneRound.{round-passed}
use Rattle.rounds.proofs.Allowed.{upto-enough, upto-spent}
use Rattle.rounds.proofs.BestPlans.{Right, raised, floor-start, search-right}

module _ (Y : System) {Legal : Y.State → Type 0} (L : Lawful Y Legal) (D : ℕ) (s : Y.State) where
  -- a floor for open lists is one for all lists within the step limit
  pub floor-all : (T : ℕ) → Floor Y D s T → (q : List ℕ) → Reaches Y s q → length q ≤ D → T ≤ total_cost Y q
  floor-all T fl q w l = let (p, o, r, m, c) = shortcut Y L D s q w l in omega (arith, fl p o r)

-- lists each of which is the other or comes before it are the same
pub before-antisym : (p q : List ℕ) → Before p q → Before q p → p ≡ q
before-antisym [] [] a b = refl
before-antisym [] (i ∷ q) a b = absurd b
before-antisym (r ∷ p) [] a b = absurd a
before-antisym (r ∷ p) (i ∷ q) (inl a) (inl b) = absurd (omega arith)
before-antisym (r ∷ p) (i ∷ q) (inl a) (inr b) = absurd (omega arith)
before-antisym (r ∷ p) (i ∷ q) (inr a) (inl b) = absurd (omega arith)
before-antisym (r ∷ p) (i ∷ q) (inr a) (inr b) = ap₂ ◌∷◌ a.0 (before-antisym p q a.1 b.1)

-- there is one best plan at most, whatever the cost limits
pub best-one :
    (Y : System) (D : ℕ) (s : Y.State) (B C : ℕ) (p q : List ℕ) → BestPlan Y D s B p → BestPlan Y D s C q → p ≡ q
best-one Y D s B C p q a b =
    let le : total_cost Y p ≤ total_cost Y q = a.cheapest q b.open-list b.reaches in
    let ge : total_cost Y q ≤ total_cost Y p = b.cheapest p a.open-list a.reaches in
    before-antisym p q (a.earliest q b.open-list b.reaches (omega arith))
    (b.earliest p a.open-list a.reaches (omega arith))

module _
    (Y : System) (h : Y.State → Estimate) {Legal : Y.State → Type 0} (L : Lawful Y Legal) (P : Passing Y Legal h)
    (D B : ℕ) (s : Y.State) (good : Legal s) where
  module _ (A : Allowance) where
    right : (x : Answer) → search Y h A D B s ≡ x → Right Y D s A B x
    right x e = subst (Right Y D s A B) e (search-right Y h L P D s good A B)

    pub found-best :
        (u c : ℕ) (p : List ℕ) → search Y h A D B s ≡ found u p c → (c ≡ total_cost Y p) × BestPlan Y D s B p
    found-best u c p e = right (found u p c) e

    pub found-cheapest :
        (u c : ℕ) (p : List ℕ) → search Y h A D B s ≡ found u p c → (q : List ℕ) → Reaches Y s q → length q ≤ D
        → c ≤ total_cost Y q
    found-cheapest u c p e q w l =
        let (f, b) = found-best u c p e in
        omega (arith, floor-all Y L D s (total_cost Y p) b.cheapest q w l)

    pub no-plan-none :
        (u : ℕ) → search Y h A D B s ≡ no_plan u → (q : List ℕ) → Reaches Y s q → length q ≤ D → B < total_cost Y q
    no-plan-none u e q w l = floor-all Y L D s (suc B) (right (no_plan u) e) q w l

  -- ---- with no allowance

  pub never-spent : (u : ℕ) → search Y h free D B s ≡ spent u → ⊥
  never-spent u e = true≢false (right free (spent u) e)

  -- it finds a plan, with its own cost
  abbrev Finds : Type 0
  Finds = (u : ℕ) × (p : List ℕ) × (search Y h free D B s ≡ found u p (total_cost Y p))

  pub finds : (q : List ℕ) → Reaches Y s q → length q ≤ D → total_cost Y q ≤ B → Finds
  finds q w l c = go (search Y h free D B s) refl
    where
      go : (x : Answer) → search Y h free D B s ≡ x → Finds
      go (found u p k) e = (u, p, e ∙ ap (found u p) (found-best free u k p e).0)
      go (no_plan u) e = absurd (omega (arith, no-plan-none free u e q w l))
      go (spent u) e = absurd (never-spent u e)

  pub finds-none :
      ((q : List ℕ) → Reaches Y s q → length q ≤ D → total_cost Y q ≤ B → ⊥)
      → (u : ℕ) × (search Y h free D B s ≡ no_plan u)
  finds-none n = go (search Y h free D B s) refl
    where
      go : (x : Answer) → search Y h free D B s ≡ x → (u : ℕ) × (search Y h free D B s ≡ no_plan u)
      go (found u p k) e =
          let b = (found-best free u k p e).1 in absurd (n p b.reaches b.open-list.short b.within)
      go (no_plan u) e = (u, e)
      go (spent u) e = absurd (never-spent u e)

  -- ---- with an allowance

  pub spent_iff : (v : ℕ) → (search Y h (upto v) D B s ≡ spent v) ↔ (v < visits (search Y h free D B s))
  spent_iff v = (λ e. go e (below? v (visits (search Y h free D B s))), upto-spent Y h D B s v)
    where
      go :
          search Y h (upto v) D B s ≡ spent v
          → (v < visits (search Y h free D B s)) ⊎ (visits (search Y h free D B s) ≤ v)
          → v < visits (search Y h free D B s)
      go e (inl l) = l
      go e (inr l) = absurd (never-spent v (sym (upto-enough Y h D B s v l) ∙ e))

  -- demand 3
  pub kept : (v : ℕ) → Kept Y h D B v s (search Y h (upto v) D B s)
  kept v =
      record {
        spent_iff = spent_iff v;
        otherwise = upto-enough Y h D B s v;
        plan_iff =
            λ e. (
              given,
              λ (q, w, l, c). let (u, p, f) = finds q w l c in
                  (u, p, total_cost Y p, upto-enough Y h D B s v e ∙ f),
            );
        none_iff = λ e. (none-given, λ n. let (u, f) = finds-none n in (u, upto-enough Y h D B s v e ∙ f));
        best = found-best (upto v);
        cheapest = found-cheapest (upto v);
      }
    where
      given :
          (u : ℕ) × (p : List ℕ) × (c : ℕ) × (search Y h (upto v) D B s ≡ found u p c)
          → (q : List ℕ) × Reaches Y s q × (length q ≤ D) × (total_cost Y q ≤ B)
      given (u, p, c, e) = let b = (found-best (upto v) u c p e).1 in (p, b.reaches, b.open-list.short, b.within)

      none-given :
          (u : ℕ) × (search Y h (upto v) D B s ≡ no_plan u) → (q : List ℕ) → Reaches Y s q → length q ≤ D
          → total_cost Y q ≤ B → ⊥
      none-given (u, e) q w l c = omega (arith, no-plan-none (upto v) u e q w l)

  -- ---- the thresholds

  floor-at : (A : Allowance) (T u : ℕ) → RoundAt Y h D B s A T u → Floor Y D s T
  floor-at A T u (first_round _ e) = floor-start Y h L P D s good T e
  floor-at A n w (further T u _ _ a l e) = raised Y h L P D s good T (at n) (round-passed Y h T L A D s u w (at n) e)

  -- a threshold never passes the cheapest cost
  pub threshold_low :
      (A : Allowance) (T u : ℕ) → RoundAt Y h D B s A T u → (q : List ℕ) → Reaches Y s q → length q ≤ D
      → T ≤ total_cost Y q
  threshold_low A T u a = floor-all Y L D s T (floor-at A T u a)

-- ---- two estimates

module _
    (Y : System) (h k : Y.State → Estimate) {Legal : Y.State → Type 0} (L : Lawful Y Legal) (P : Passing Y Legal h)
    (Q : Passing Y Legal k) (A : Allowance) (D B : ℕ) (s : Y.State) (good : Legal s) where
  -- every passing estimate gives the same plan
  pub same-plan :
      (E : Allowance) (u v c d : ℕ) (p q : List ℕ) → search Y h A D B s ≡ found u p c → search Y k E D B s ≡ found v q d
      → p ≡ q
  same-plan E u v c d p q x y =
      best-one Y D s B B p q (found-best Y h L P D B s good A u c p x).1 (found-best Y k L Q D B s good E v d q y).1

  -- and where one finds a plan, so does any other that is given no allowance: the same, at the same cost
  pub same-found :
      (u c : ℕ) (p : List ℕ) → search Y h A D B s ≡ found u p c → (v : ℕ) × (search Y k free D B s ≡ found v p c)
  same-found u c p e =
      let (x, b) = found-best Y h L P D B s good A u c p e in
      let (v, q, f) = finds Y k L Q D B s good p b.reaches b.open-list.short b.within in
      let y : p ≡ q = same-plan free u v c (total_cost Y q) p q e f in
      (v, f ∙ ap (λ (z : List ℕ). found v z (total_cost Y z)) (sym y) ∙ ap (found v p) (sym x))

  pub same_none : (u : ℕ) → search Y h A D B s ≡ no_plan u → (v : ℕ) × (search Y k free D B s ≡ no_plan v)
  same_none u e = finds-none Y k L Q D B s good (λ q w l c. omega (arith, no-plan-none Y h L P D B s good A u e q w l))
