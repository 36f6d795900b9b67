-- What an offer says (`offer-sound`, `offer-cases`), and with it: a visited list is open
-- and costs at most the threshold (`visited-trail`, `visited-cost`), an estimate is at most
-- the cost of a list that reaches a goal (`bound`), and such a list is visited or has an
-- edge at no more than its cost (`reach`). That no cheaper plan is missed rests on these.
use mathlib.Core.Path.{◌≡◌, refl, ap, subst, sym, ◌∙◌}
use mathlib.Core.Logic.{◌⊎◌, inl, inr}
use mathlib.Core.Bool.{Bool, true, false}
use mathlib.Core.Option.{Option, none, some, some-injective}
use mathlib.Core.List.{List, [], ◌∷◌}
use Prim.Native.Nat.{ℕ, ◌+◌, ◌≤◌, ◌<◌}
use native.Mathlib.Omega.{arith}
use lib.ListN.{length}
use lib.Dec.{leb}
use borrow.Author.Tests.{leb-true, leb-false}
use Rattle.rounds.specs.Systems.{System, Estimate, mark, at, plus, Lawful, Passing}
use Rattle.rounds.specs.OpenLists.{run, total_cost}
use Rattle.rounds.specs.Rounds.{occurs, Offer, cut, overshoot, due, judge, rate, weigh, offered, offer}
use Rattle.rounds.proofs.OpenListLaws.{Trail, run-cons, fresh-avoids, avoids-fresh, trail-run}
use Rattle.rounds.proofs.OneRound.{OnDue, OnEdge, Visited, Edge, at-visited, at_edge}

module _ (Y : System) (h : Y.State → Estimate) where
  -- rule r leads from s to m, which is new; k is the estimate of m
  pub record Leads (seen : List Y.State) (s : Y.State) (r : ℕ) (m : Y.State) (k : ℕ) : Type 0 where
    pub steps : Y.step r s ≡ some m
    pub fresh : occurs Y m seen ≡ false
    pub rated : h m ≡ at k

  -- an estimate is at most what it costs to reach a goal
  module _ {Legal : Y.State → Type 0} (L : Lawful Y Legal) (P : Passing Y Legal h) where
    pub bound :
        (s : Y.State) (p : List ℕ) (t : Y.State) → Legal s → run Y s p ≡ some t → Y.goal t ≡ true
        → (k : ℕ) × (h s ≡ at k) × (k ≤ total_cost Y p)
    bound s [] t i e q = (
      0,
      P.at_goal s i (subst (λ (z : Y.State). Y.goal z ≡ true) (sym (some-injective s t e)) q),
      omega arith,
    )
    bound s (r ∷ p) t i e q =
        let (m, w, f) = run-cons Y r s p t e in
        let (k, a, l) = bound m p t (L.stays r s m i w) f q in
        let (j, b, c) = P.at_step r s m k i w a in
        (j, b, omega arith)

module _ (Y : System) (h : Y.State → Estimate) (T : ℕ) where
  -- ---- what an offer tells

  -- what an offer of rule r at a list of cost g with last state s says
  abbrev pub Sound : List Y.State → Y.State → ℕ → ℕ → Offer Y.State → Type 0
  Sound seen s g r cut = Unit {0}
  Sound seen s g r (overshoot f) = (m : Y.State) × (k : ℕ) × Leads Y h seen s r m k × (f ≡ g + Y.cost r + k) × (T < f)
  Sound seen s g r (due m) = (k : ℕ) × Leads Y h seen s r m k × (g + Y.cost r + k ≤ T)

  module _ (seen : List Y.State) (s : Y.State) (g r : ℕ) where
    sound-judge :
        (m : Y.State) (k : ℕ) → Leads Y h seen s r m k → (b : Bool) → leb (g + Y.cost r + k) T ≡ b
        → Sound seen s g r (judge b m (g + Y.cost r + k))
    sound-judge m k w true e = (k, w, leb-true (g + Y.cost r + k) T e)
    sound-judge m k w false e = (m, k, w, refl, leb-false (g + Y.cost r + k) T e)

    sound-rate :
        (m : Y.State) → Y.step r s ≡ some m → occurs Y m seen ≡ false → (e : Estimate) → h m ≡ e
        → Sound seen s g r (rate T m (plus (g + Y.cost r) e))
    sound-rate m x y mark e = tt
    sound-rate m x y (at k) e =
        sound-judge m k (record { steps = x; fresh = y; rated = e }) (leb (g + Y.cost r + k) T) refl

    sound-weigh :
        (m : Y.State) → Y.step r s ≡ some m → (b : Bool) → occurs Y m seen ≡ b
        → Sound seen s g r (weigh b T m (plus (g + Y.cost r) (h m)))
    sound-weigh m x true y = tt
    sound-weigh m x false y = sound-rate m x y (h m) refl

    sound-offered : (x : Option Y.State) → Y.step r s ≡ x → Sound seen s g r (offered Y h T seen (g + Y.cost r) x)
    sound-offered none e = tt
    sound-offered (some m) e = sound-weigh m e (occurs Y m seen) refl

    pub offer-sound : Sound seen s g r (offer Y h T seen s g r)
    unfolding offer
    offer-sound = sound-offered (Y.step r s) refl

    pub offer-judge :
        (m : Y.State) (k : ℕ) → Leads Y h seen s r m k
        → offer Y h T seen s g r ≡ judge (leb (g + Y.cost r + k) T) m (g + Y.cost r + k)
    unfolding offer
    offer-judge m k w =
        ap (offered Y h T seen (g + Y.cost r)) w.steps
        ∙ ap (λ (b : Bool). weigh b T m (plus (g + Y.cost r) (h m))) w.fresh
        ∙ ap (λ (e : Estimate). rate T m (plus (g + Y.cost r) e)) w.rated

    -- a rule that leads to a new state with an estimate: due, or above the threshold
    abbrev pub DueOrOver : Y.State → ℕ → Type 0
    DueOrOver m k =
        ((g + Y.cost r + k ≤ T) × (offer Y h T seen s g r ≡ due m))
        ⊎ ((T < g + Y.cost r + k) × (offer Y h T seen s g r ≡ overshoot (g + Y.cost r + k)))

    pub offer-cases : (m : Y.State) (k : ℕ) → Leads Y h seen s r m k → DueOrOver m k
    offer-cases m k w = go (leb (g + Y.cost r + k) T) refl (offer-judge m k w)
      where
        go :
            (b : Bool) → leb (g + Y.cost r + k) T ≡ b → offer Y h T seen s g r ≡ judge b m (g + Y.cost r + k)
            → DueOrOver m k
        go true e f = inl (leb-true (g + Y.cost r + k) T e, f)
        go false e f = inr (leb-false (g + Y.cost r + k) T e, f)

  -- a visited list, its first rule apart
  module _ (seen : List Y.State) (s : Y.State) (g r : ℕ) (p : List ℕ) (t : Y.State) where
    abbrev Onward : Type 0
    Onward =
        (m : Y.State) × (k : ℕ) × Leads Y h seen s r m k × (g + Y.cost r + k ≤ T)
        × Visited Y h T (m ∷ seen) m (g + Y.cost r) p t

    pub visited-cons : Visited Y h T seen s g (r ∷ p) t → Onward
    visited-cons v = go (offer Y h T seen s g r) (offer-sound seen s g r) v
      where
        go :
            (x : Offer Y.State) → Sound seen s g r x → OnDue x (λ m. Visited Y h T (m ∷ seen) m (g + Y.cost r) p t)
            → Onward
        go cut f w = absurd w
        go (overshoot z) f w = absurd w
        go (due m) f w = (m, f.0, f.1, f.2, w)

  pub edge-above :
      (seen : List Y.State) (s : Y.State) (g : ℕ) (p : List ℕ) (f : ℕ) → Edge Y h T seen s g p f → T < f
  edge-above seen s g [] f v = absurd v
  edge-above seen s g (r ∷ p) f v =
      go (offer Y h T seen s g r) (offer-sound seen s g r) v (λ m. edge-above (m ∷ seen) m (g + Y.cost r) p f)
    where
      go :
          (x : Offer Y.State) → Sound seen s g r x → OnEdge x p f (λ m. Edge Y h T (m ∷ seen) m (g + Y.cost r) p f)
          → ((m : Y.State) → Edge Y h T (m ∷ seen) m (g + Y.cost r) p f → T < f) → T < f
      go cut w e ih = absurd e
      go (overshoot z) w e ih = omega (arith, w.4, e.1)
      go (due m) w e ih = ih m e

  pub visited-cost :
      (seen : List Y.State) (s : Y.State) (g : ℕ) (p : List ℕ) (t : Y.State) → g ≤ T → Visited Y h T seen s g p t
      → g + total_cost Y p ≤ T
  visited-cost seen s g [] t l v = omega arith
  visited-cost seen s g (r ∷ p) t l v =
      let (m, k, w, b, v') = visited-cons seen s g r p t v in
      omega (arith, visited-cost (m ∷ seen) m (g + Y.cost r) p t (omega arith) v')

  -- an edge at no more than the cost of p, on no more rules
  abbrev pub EdgeUnder : List Y.State → Y.State → ℕ → List ℕ → Type 0
  EdgeUnder seen s g p =
      (q : List ℕ) × (f : ℕ) × Edge Y h T seen s g q f × (f ≤ g + total_cost Y p) × (length q ≤ length p)

  -- ---- with a lawful system and a passing estimate

  module _ {Legal : Y.State → Type 0} (L : Lawful Y Legal) where
    pub visited-trail :
        (seen : List Y.State) (s : Y.State) (g : ℕ) (p : List ℕ) (t : Y.State) → Visited Y h T seen s g p t
        → Trail Y seen s p t
    visited-trail seen s g [] t v = v
    visited-trail seen s g (r ∷ p) t v =
        let (m, k, w, b, v') = visited-cons seen s g r p t v in
        (m, w.steps, fresh-avoids Y L m seen w.fresh, visited-trail (m ∷ seen) m (g + Y.cost r) p t v')

    module _ (P : Passing Y Legal h) where
      -- a list that reaches a goal is visited, or has an edge on it
      pub reach :
          (seen : List Y.State) (s : Y.State) (g : ℕ) (p : List ℕ) (t : Y.State) → Legal s → Trail Y seen s p t
          → Y.goal t ≡ true → Visited Y h T seen s g p t ⊎ EdgeUnder seen s g p
      reach seen s g [] t i w q = inl w
      reach seen s g (r ∷ p) t i w q =
          let m : Y.State = w.0 in
          let j : Legal m = L.stays r s m i w.1 in
          let (k, a, l) = bound Y h L P m p t j (trail-run Y (m ∷ seen) m p t w.3) q in
          let le : Leads Y h seen s r m k =
          record { steps = w.1; fresh = avoids-fresh Y L m seen w.2; rated = a } in
          go m k l (offer-cases seen s g r m k le) (reach (m ∷ seen) m (g + Y.cost r) p t j w.3 q)
        where
          go :
              (m : Y.State) (k : ℕ) → k ≤ total_cost Y p → DueOrOver seen s g r m k
              → Visited Y h T (m ∷ seen) m (g + Y.cost r) p t ⊎ EdgeUnder (m ∷ seen) m (g + Y.cost r) p
              → Visited Y h T seen s g (r ∷ p) t ⊎ EdgeUnder seen s g (r ∷ p)
          go m k l (inr x) y =
              let f : ℕ = g + Y.cost r + k in
              inr (r ∷ [], f, at_edge Y h T seen s g r (overshoot f) x.1 [] f (refl, refl), omega arith, omega arith)
          go m k l (inl x) (inl v) = inl (at-visited Y h T seen s g r (due m) x.1 p t v)
          go m k l (inl x) (inr (q, f, e, c, n)) =
              inr (r ∷ q, f, at_edge Y h T seen s g r (due m) x.1 q f e, omega arith, omega arith)
