-- The rounds' equations, a law for each branch of a program: a visit that is due (`visit-stop` to
-- `visit-more`), what a rule offers (`offer-none` to `offer-due`), one rule and then the others
-- (`extend-none` to `extend-stop`), a round and then the others (`rounds-above` to `rounds-on`). Code that
-- searches rests on these; beside them it unfolds only `begin`, `conclude`, `round`, `search` and `lower`.
use mathlib.Core.Path.{◌≡◌, refl, ap, ap₂, ◌∙◌}
use mathlib.Core.Bool.{Bool, true, false}
use mathlib.Core.Option.{none, some}
use mathlib.Core.List.{List, [], ◌∷◌}
use Prim.Native.Nat.{ℕ, zero, suc, ◌+◌}
use lib.Dec.{leb}
use Rattle.rounds.specs.Systems.{System, Lawful, Estimate, mark, at, plus, lower}
use Rattle.rounds.specs.Rounds.{occurs, Allowance, allows, Progress, on, hit, stop, found, no_plan, spent, Offer}
use Rattle.rounds.specs.Rounds.{cut, overshoot, due, judge, weigh, and_then, behind, take_up, arrive, conclude, capped}
use Rattle.rounds.specs.Rounds.{Answer, Visitor, offered, offer, extend, visit, round, rounds_from}
use Rattle.rounds.proofs.ReachingLists.{offer-judge}
use Rattle.rounds.proofs.RoundCounts.{rounds-again}

-- a visit that is due, by its two tests
module _ (a b : Bool) (g u : ℕ) (o : Estimate) (k : ℕ → Estimate → Progress) where
  arrive-stop : a ≡ false → arrive a b g u o k ≡ stop u
  unfolding arrive
  arrive-stop e = ap (λ (x : Bool). arrive x b g u o k) e

  arrive-goal : a ≡ true → b ≡ true → arrive a b g u o k ≡ hit (suc u) [] g
  unfolding arrive
  arrive-goal e f = ap₂ (λ (x y : Bool). arrive x y g u o k) e f

  arrive-on : a ≡ true → b ≡ false → arrive a b g u o k ≡ k (suc u) o
  unfolding arrive
  arrive-on e f = ap₂ (λ (x y : Bool). arrive x y g u o k) e f

module _
    (Y : System) (h : Y.State → Estimate) (A : Allowance) (T : ℕ) (seen : List Y.State) (s : Y.State) (g : ℕ) where
  -- ---- a visit

  pub visit-stop : (d u : ℕ) (o : Estimate) → allows A u ≡ false → visit Y h A T d seen s g u o ≡ stop u
  unfolding visit
  visit-stop zero u o e = arrive-stop (allows A u) (Y.goal s) g u o _ e
  visit-stop (suc d) u o e = arrive-stop (allows A u) (Y.goal s) g u o _ e

  pub visit-goal :
      (d u : ℕ) (o : Estimate) → allows A u ≡ true → Y.goal s ≡ true → visit Y h A T d seen s g u o ≡ hit (suc u) [] g
  unfolding visit
  visit-goal zero u o e f = arrive-goal (allows A u) (Y.goal s) g u o _ e f
  visit-goal (suc d) u o e f = arrive-goal (allows A u) (Y.goal s) g u o _ e f

  pub visit-leaf :
      (u : ℕ) (o : Estimate) → allows A u ≡ true → Y.goal s ≡ false → visit Y h A T 0 seen s g u o ≡ on (suc u) o
  unfolding visit
  visit-leaf u o e f = arrive-on (allows A u) (Y.goal s) g u o _ e f

  pub visit-more :
      (d u : ℕ) (o : Estimate) → allows A u ≡ true → Y.goal s ≡ false
      → visit Y h A T (suc d) seen s g u o ≡ extend Y h T (visit Y h A T d) seen s g Y.rules 0 (suc u) o
  unfolding visit
  visit-more d u o e f = arrive-on (allows A u) (Y.goal s) g u o _ e f

module _ (Y : System) (h : Y.State → Estimate) (T : ℕ) (seen : List Y.State) (s : Y.State) (g : ℕ) where
  -- ---- an offer

  pub offer-none : (r : ℕ) → Y.step r s ≡ none → offer Y h T seen s g r ≡ cut
  unfolding offer
  offer-none r e = ap (offered Y h T seen (g + Y.cost r)) e

  pub offer-seen : (r : ℕ) (t : Y.State) → Y.step r s ≡ some t → occurs Y t seen ≡ true → offer Y h T seen s g r ≡ cut
  unfolding offer
  offer-seen r t e f =
      ap (offered Y h T seen (g + Y.cost r)) e ∙ ap (λ (b : Bool). weigh b T t (plus (g + Y.cost r) (h t))) f

  pub offer-mark :
      (r : ℕ) (t : Y.State) → Y.step r s ≡ some t → h t ≡ mark → occurs Y t seen ≡ false
      → offer Y h T seen s g r ≡ cut
  unfolding offer
  offer-mark r t e f x =
      ap (offered Y h T seen (g + Y.cost r)) e
      ∙ ap₂ (λ (b : Bool) (y : Estimate). weigh b T t (plus (g + Y.cost r) y)) x f

  module _
      (r : ℕ) (t : Y.State) (k : ℕ) (e : Y.step r s ≡ some t) (x : occurs Y t seen ≡ false) (f : h t ≡ at k) where
    offer-at : (b : Bool) → leb (g + Y.cost r + k) T ≡ b → offer Y h T seen s g r ≡ judge b t (g + Y.cost r + k)
    offer-at b l =
        offer-judge Y h T seen s g r t k (record { steps = e; fresh = x; rated = f })
        ∙ ap (λ (c : Bool). judge c t (g + Y.cost r + k)) l

    pub offer-overshoot : leb (g + Y.cost r + k) T ≡ false → offer Y h T seen s g r ≡ overshoot (g + Y.cost r + k)
    offer-overshoot l = offer-at false l

    pub offer-due : leb (g + Y.cost r + k) T ≡ true → offer Y h T seen s g r ≡ due t
    offer-due l = offer-at true l

  -- ---- one rule, then the others

  pub extend-none : (next : Visitor Y.State) (i u : ℕ) (o : Estimate) → extend Y h T next seen s g 0 i u o ≡ on u o
  unfolding extend
  extend-none next i u o = refl

  module _ (next : Visitor Y.State) (k i u : ℕ) (o : Estimate) where
    -- what rule i leaves, handed on to the others
    handed-on : Progress → Progress
    handed-on x = and_then x (λ w q. extend Y h T next seen s g k (suc i) w q)

    taken-up : Offer Y.State → Progress
    taken-up x = handed-on (take_up x i (λ t. next (t ∷ seen) t (g + Y.cost i)) u o)

    pub extend_cut :
        offer Y h T seen s g i ≡ cut
        → extend Y h T next seen s g (suc k) i u o ≡ extend Y h T next seen s g k (suc i) u o
    unfolding extend and_then take_up handed-on taken-up
    extend_cut e = ap taken-up e

    pub extend-overshoot :
        (f : ℕ) → offer Y h T seen s g i ≡ overshoot f
        → extend Y h T next seen s g (suc k) i u o ≡ extend Y h T next seen s g k (suc i) u (lower f o)
    unfolding extend and_then take_up handed-on taken-up
    extend-overshoot f e = ap taken-up e

    module _ (t : Y.State) (e : offer Y h T seen s g i ≡ due t) where
      extend-due :
          (x : Progress) → next (t ∷ seen) t (g + Y.cost i) u o ≡ x
          → extend Y h T next seen s g (suc k) i u o ≡ handed-on (behind i x)
      unfolding extend take_up handed-on taken-up
      extend-due x f = ap taken-up e ∙ ap (λ (y : Progress). handed-on (behind i y)) f

      pub extend-on :
          (w : ℕ) (q : Estimate) → next (t ∷ seen) t (g + Y.cost i) u o ≡ on w q
          → extend Y h T next seen s g (suc k) i u o ≡ extend Y h T next seen s g k (suc i) w q
      unfolding and_then behind handed-on
      extend-on w q f = extend-due (on w q) f

      pub extend-hit :
          (w : ℕ) (p : List ℕ) (c : ℕ) → next (t ∷ seen) t (g + Y.cost i) u o ≡ hit w p c
          → extend Y h T next seen s g (suc k) i u o ≡ hit w (i ∷ p) c
      unfolding and_then behind handed-on
      extend-hit w p c f = extend-due (hit w p c) f

      pub extend-stop :
          (w : ℕ) → next (t ∷ seen) t (g + Y.cost i) u o ≡ stop w → extend Y h T next seen s g (suc k) i u o ≡ stop w
      unfolding and_then behind handed-on
      extend-stop w f = extend-due (stop w) f

module _
    (Y : System) (h : Y.State → Estimate) {Legal : Y.State → Type 0} (L : Lawful Y Legal) (A : Allowance) (D B : ℕ)
    (s : Y.State) where
  -- ---- a round, then the others

  module _ (T u : ℕ) where
    -- the round at T after w visits, and the others
    abbrev round-then : ℕ → Answer
    round-then w = conclude (round Y h A D s T w) (rounds_from Y h A D B s)

    by-limit : (b : Bool) → leb T B ≡ b → rounds_from Y h A D B s T u ≡ capped b u round-then
    by-limit b e = rounds-again Y h L A D B s T u ∙ ap (λ (c : Bool). capped c u round-then) e

    pub rounds-above : leb T B ≡ false → rounds_from Y h A D B s T u ≡ no_plan u
    unfolding capped
    rounds-above e = by-limit false e

    module _ (e : leb T B ≡ true) where
      by-round :
          (x : Progress) → round Y h A D s T u ≡ x → rounds_from Y h A D B s T u ≡ conclude x (rounds_from Y h A D B s)
      unfolding capped
      by-round x f = by-limit true e ∙ ap (λ (y : Progress). conclude y (rounds_from Y h A D B s)) f

      pub rounds-found :
          (w : ℕ) (p : List ℕ) (c : ℕ) → round Y h A D s T u ≡ hit w p c → rounds_from Y h A D B s T u ≡ found w p c
      unfolding conclude
      rounds-found w p c f = by-round (hit w p c) f

      pub rounds-stop : (w : ℕ) → round Y h A D s T u ≡ stop w → rounds_from Y h A D B s T u ≡ spent w
      unfolding conclude
      rounds-stop w f = by-round (stop w) f

      pub rounds-none : (w : ℕ) → round Y h A D s T u ≡ on w mark → rounds_from Y h A D B s T u ≡ no_plan w
      unfolding conclude
      rounds-none w f = by-round (on w mark) f

      pub rounds-on :
          (w n : ℕ) → round Y h A D s T u ≡ on w (at n) → rounds_from Y h A D B s T u ≡ rounds_from Y h A D B s n w
      unfolding conclude
      rounds-on w n f = by-round (on w (at n)) f
