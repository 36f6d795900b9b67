-- The lists of a round by their figures: it visits just the open lists whose prefixes all have a figure of at most the
-- threshold (`visited-in`, `in-visited`), and its edges are those with an overshoot (`edge-overshoot`,
-- `overshoot-edge`). So the next threshold is the least overshoot (`next-least`, `next_threshold`). These show the
-- rounds to be the rounds of document 01; the thresholds of a search as a list rest on them.
use mathlib.Core.Path.{◌≡◌, refl, ap, subst, sym, ◌∙◌}
use mathlib.Core.Logic.{inl, inr}
use mathlib.Core.Option.{some}
use mathlib.Core.List.{List, [], ◌∷◌, ◌++◌, nil≢cons, head-eq_of_cons-eq, tail-eq_of_cons-eq}
use Prim.Native.Nat.{ℕ, ◌+◌, ◌≤◌, ◌<◌}
use native.Mathlib.Nat.{zero-add}
use native.Mathlib.Omega.{arith}
use lib.ListN.{length}
use Rattle.rounds.specs.Systems.{System, Estimate, mark, at, plus, Within, Lawful}
use Rattle.rounds.specs.OpenLists.{plus_maybe, Avoids, run, total_cost, Open, figure}
use Rattle.rounds.specs.Rounds.{Allowance, on, Offer, cut, overshoot, due, offer, round}
use Rattle.rounds.specs.Promises.{InRound, Overshoot, NextThreshold}
use Rattle.rounds.specs.Thresholds.{RoundAt, first_round, further}
use Rattle.rounds.proofs.OpenListLaws.{Trail, run_step, trail-open, open-trail, avoids-fresh, fresh-avoids}
use Rattle.rounds.proofs.EstimateLaws.{within-mono, zero-plus, number}
use Rattle.rounds.proofs.OneRound.{OnEdge, Visited, Edge, at-visited, at_edge, round-passed}
use Rattle.rounds.proofs.BestPlans.{higher}
use Rattle.rounds.proofs.ReachingLists.{Leads, Sound, offer-sound, offer-cases, visited-cons, visited-trail}

module _ (Y : System) (h : Y.State → Estimate) where
  -- the figure of a list from s, where the list before it costs g
  abbrev figure_from : ℕ → Y.State → List ℕ → Estimate
  figure_from g s p = plus_maybe (g + total_cost Y p) h (run Y s p)

  figure-from : (s : Y.State) (p : List ℕ) → figure_from 0 s p ≡ figure Y h s p
  figure-from s p = ap (λ (n : ℕ). plus_maybe n h (run Y s p)) (zero-add (total_cost Y p))

  figure-nil : (g : ℕ) (s : Y.State) → figure_from g s [] ≡ plus g (h s)
  figure-nil g s = ap (λ (n : ℕ). plus n (h s)) (omega arith)

  figure-cons :
      (g r : ℕ) (s m : Y.State) (p : List ℕ) → Y.step r s ≡ some m
      → figure_from g s (r ∷ p) ≡ figure_from (g + Y.cost r) m p
  figure-cons g r s m p e =
      ap (λ (n : ℕ). plus_maybe n h (run Y s (r ∷ p))) (omega arith)
      ∙ ap (plus_maybe (g + Y.cost r + total_cost Y p) h) (run_step Y r s m p e)

  figure-one : (g r : ℕ) (s m : Y.State) → Y.step r s ≡ some m → figure_from g s (r ∷ []) ≡ plus (g + Y.cost r) (h m)
  figure-one g r s m e = figure-cons g r s m [] e ∙ figure-nil (g + Y.cost r) m

  module _ (T : ℕ) where
    within : {x y : Estimate} → x ≡ y → Within x T → Within y T
    within e w = subst (λ (z : Estimate). Within z T) e w

    -- p and all its prefixes have a figure of at most T
    InFrom : ℕ → Y.State → List ℕ → Type 0
    InFrom g s p = (q z : List ℕ) → p ≡ q ++ z → Within (figure_from g s q) T

    -- all proper prefixes of p have
    ProperFrom : ℕ → Y.State → List ℕ → Type 0
    ProperFrom g s p = (q : List ℕ) (i : ℕ) (z : List ℕ) → p ≡ q ++ i ∷ z → Within (figure_from g s q) T

    abbrev OvershootFrom : List Y.State → Y.State → ℕ → List ℕ → ℕ → Type 0
    OvershootFrom seen s g p f =
        (t : Y.State) × Trail Y seen s p t × (figure_from g s p ≡ at f) × (T < f) × ProperFrom g s p

    -- a figure of at most T is a number
    at-within : (e : Estimate) (g : ℕ) → Within (plus g e) T → (k : ℕ) × (e ≡ at k) × (g + k ≤ T)
    at-within mark g w = absurd w
    at-within (at k) g w = (k, refl, w)

    within-at : (e : Estimate) (g k : ℕ) → e ≡ at k → g + k ≤ T → Within (plus g e) T
    within-at e g k x l = within (ap (plus g) (sym x)) l

    -- ---- the lists of a round

    visited-from :
        (seen : List Y.State) (s : Y.State) (g : ℕ) (p : List ℕ) (t : Y.State) → Within (plus g (h s)) T
        → Visited Y h T seen s g p t → InFrom g s p
    unfolding InFrom
    visited-from seen s g p t w v [] z e = within (sym (figure-nil g s)) w
    visited-from seen s g [] t w v (i ∷ q) z e = absurd (nil≢cons e)
    visited-from seen s g (r ∷ p) t w v (i ∷ q) z e =
        let (m, k, l, b, v') = visited-cons Y h T seen s g r p t v in
        let a : Within (plus (g + Y.cost r) (h m)) T = within-at (h m) (g + Y.cost r) k l.rated b in
        subst (λ (j : ℕ). Within (figure_from g s (j ∷ q)) T) (head-eq_of_cons-eq e)
        (within (sym (figure-cons g r s m q l.steps))
        (visited-from (m ∷ seen) m (g + Y.cost r) p t a v' q z (tail-eq_of_cons-eq e)))

    in_step :
        (g r : ℕ) (s m : Y.State) (p : List ℕ) → Y.step r s ≡ some m → InFrom g s (r ∷ p) → InFrom (g + Y.cost r) m p
    unfolding InFrom
    in_step g r s m p e i q z f = within (figure-cons g r s m q e) (i (r ∷ q) z (ap (λ (l : List ℕ). r ∷ l) f))

    -- ---- the lists one rule past the round

    proper-step :
        (g r : ℕ) (s m : Y.State) (p : List ℕ) → Y.step r s ≡ some m → ProperFrom g s (r ∷ p)
        → ProperFrom (g + Y.cost r) m p
    unfolding ProperFrom
    proper-step g r s m p e w q i z f = within (figure-cons g r s m q e) (w (r ∷ q) i z (ap (λ (l : List ℕ). r ∷ l) f))

    proper-back :
        (g r : ℕ) (s m : Y.State) (p : List ℕ) → Y.step r s ≡ some m → Within (plus g (h s)) T
        → ProperFrom (g + Y.cost r) m p → ProperFrom g s (r ∷ p)
    unfolding ProperFrom
    proper-back g r s m p e a w [] i z f = within (sym (figure-nil g s)) a
    proper-back g r s m p e a w (j ∷ q) i z f =
        subst (λ (n : ℕ). Within (figure_from g s (n ∷ q)) T) (head-eq_of_cons-eq f)
        (within (sym (figure-cons g r s m q e)) (w q i z (tail-eq_of_cons-eq f)))

    proper-nil : (g : ℕ) (s : Y.State) → ProperFrom g s []
    unfolding ProperFrom
    proper-nil g s [] i z f = absurd (nil≢cons f)
    proper-nil g s (j ∷ q) i z f = absurd (nil≢cons f)

    module _ {Legal : Y.State → Type 0} (L : Lawful Y Legal) where
      -- ---- open lists with such figures are visited, and edges

      -- the first rule of a trail, where the figure after it is a number
      leads :
          (seen : List Y.State) (s m : Y.State) (r k : ℕ) → Y.step r s ≡ some m → Avoids m seen → h m ≡ at k
          → Leads Y h seen s r m k
      leads seen s m r k e a x = record { steps = e; fresh = avoids-fresh Y L m seen a; rated = x }

      from-visited :
          (seen : List Y.State) (s : Y.State) (g : ℕ) (p : List ℕ) (t : Y.State) → Trail Y seen s p t
          → InFrom g s p
          → Visited Y h T seen s g p t
      unfolding InFrom
      from-visited seen s g [] t w i = w
      from-visited seen s g (r ∷ p) t (m, e, a, w) i =
          let (k, x, l) = at-within (h m) (g + Y.cost r) (within (figure-one g r s m e) (i (r ∷ []) p refl)) in
          elim (offer-cases Y h T seen s g r m k (leads seen s m r k e a x)) [
            | inl z ↦
                at-visited Y h T seen s g r (due m) z.1 p t
                (from-visited (m ∷ seen) m (g + Y.cost r) p t w (in_step g r s m p e i))
            | inr z ↦ absurd (omega (arith, z.0))
          ]

      edge-from :
          (seen : List Y.State) (s : Y.State) (g : ℕ) (p : List ℕ) (f : ℕ) → Within (plus g (h s)) T
          → Edge Y h T seen s g p f → OvershootFrom seen s g p f
      edge-from seen s g [] f a v = absurd v
      edge-from seen s g (r ∷ p) f a v =
          go (offer Y h T seen s g r) (offer-sound Y h T seen s g r) v
          (λ m b w. edge-from (m ∷ seen) m (g + Y.cost r) p f b w)
        where
          one :
              (m : Y.State) (k z : ℕ) → Leads Y h seen s r m k → z ≡ g + Y.cost r + k → T < z → z ≡ f
              → OvershootFrom seen s g (r ∷ []) f
          one m k z l e b c = (
            m,
            (m, l.steps, fresh-avoids Y L m seen l.fresh, refl),
            figure-one g r s m l.steps ∙ ap (plus (g + Y.cost r)) l.rated ∙ ap at (omega arith),
            omega arith,
            proper-back g r s m [] l.steps a (proper-nil (g + Y.cost r) m),
          )

          go :
              (x : Offer Y.State) → Sound Y h T seen s g r x
              → OnEdge x p f (λ m. Edge Y h T (m ∷ seen) m (g + Y.cost r) p f)
              → ((m : Y.State) → Within (plus (g + Y.cost r) (h m)) T → Edge Y h T (m ∷ seen) m (g + Y.cost r) p f
              → OvershootFrom (m ∷ seen) m (g + Y.cost r) p f)
              → OvershootFrom seen s g (r ∷ p) f
          go cut w e ih = absurd e
          go (overshoot z) w e ih =
              subst (λ (l : List ℕ). OvershootFrom seen s g (r ∷ l) f) (sym e.0)
              (one w.0 w.1 z w.2 w.3 w.4 e.1)
          go (due m) (k, l, b) e ih =
              let (t, x, y, u, w) = ih m (within-at (h m) (g + Y.cost r) k l.rated b) e in (
                t,
                (m, l.steps, fresh-avoids Y L m seen l.fresh, x),
                figure-cons g r s m p l.steps ∙ y,
                u,
                proper-back g r s m p l.steps a w,
              )

      from-edge :
          (seen : List Y.State) (s : Y.State) (g : ℕ) (p : List ℕ) (f : ℕ) (t : Y.State) → Within (plus g (h s)) T
          → Trail Y seen s p t → figure_from g s p ≡ at f → T < f → ProperFrom g s p → Edge Y h T seen s g p f
      unfolding ProperFrom
      from-edge seen s g [] f t a w e l b =
          let (k, x, y) = number (h s) g f (sym (figure-nil g s) ∙ e) in
          let c : Within (plus g (at k)) T = within (ap (plus g) x) a in
          omega arith
      from-edge seen s g (r ∷ []) f t a (m, n, o, w) e l b =
          let (k, x, y) = number (h m) (g + Y.cost r) f (sym (figure-one g r s m n) ∙ e) in
          elim (offer-cases Y h T seen s g r m k (leads seen s m r k n o x)) [
            | inl z ↦ absurd (omega (arith, z.0))
            | inr z ↦ at_edge Y h T seen s g r (overshoot (g + Y.cost r + k)) z.1 [] f (refl, y)
          ]
      from-edge seen s g (r ∷ j ∷ p) f t a (m, n, o, w) e l b =
          let c : Within (plus (g + Y.cost r) (h m)) T = within (figure-one g r s m n) (b (r ∷ []) j p refl) in
          let (k, x, y) = at-within (h m) (g + Y.cost r) c in
          elim (offer-cases Y h T seen s g r m k (leads seen s m r k n o x)) [
            | inl z ↦
                at_edge Y h T seen s g r (due m) z.1 (j ∷ p) f
                (from-edge (m ∷ seen) m (g + Y.cost r) (j ∷ p) f t c w (sym (figure-cons g r s m (j ∷ p) n) ∙ e) l
                (proper-step g r s m (j ∷ p) n b))
            | inr z ↦ absurd (omega (arith, z.0))
          ]

      -- ---- the same from a start

      at-start : (s : Y.State) → Within (h s) T → Within (plus 0 (h s)) T
      at-start s w = within (sym (zero-plus (h s))) w

      pub visited-in :
          (d : ℕ) (s : Y.State) (p : List ℕ) (t : Y.State) → Within (h s) T → length p ≤ d
          → Visited Y h T (s ∷ []) s 0 p t
          → Open Y d s p × InRound Y h T s p
      unfolding InRound InFrom
      visited-in d s p t w l v = (
        trail-open Y d s p t (visited-trail Y h T L (s ∷ []) s 0 p t v) l,
        λ q z e. within (figure-from s q) (visited-from (s ∷ []) s 0 p t (at-start s w) v q z e),
      )

      pub in-visited :
          (d : ℕ) (s : Y.State) (p : List ℕ) (t : Y.State) → Open Y d s p → run Y s p ≡ some t → InRound Y h T s p
          → Visited Y h T (s ∷ []) s 0 p t
      unfolding InRound InFrom
      in-visited d s p t o e i =
          from-visited (s ∷ []) s 0 p t (open-trail Y d s p t o e) (λ q z x. within (sym (figure-from s q)) (i q z x))

      pub edge-overshoot :
          (d : ℕ) (s : Y.State) (p : List ℕ) (f : ℕ) → Within (h s) T → length p ≤ d → Edge Y h T (s ∷ []) s 0 p f
          → Overshoot Y h T d s p f
      unfolding ProperFrom
      edge-overshoot d s p f a l v =
          let (t, w, x, y, z) = edge-from (s ∷ []) s 0 p f (at-start s a) v in
          record {
            open-list = trail-open Y d s p t w l;
            figured = sym (figure-from s p) ∙ x;
            above = y;
            proper = λ q i r e. within (figure-from s q) (z q i r e);
          }

      pub overshoot-edge :
          (d : ℕ) (s : Y.State) (p : List ℕ) (f : ℕ) → Within (h s) T → Overshoot Y h T d s p f
          → Edge Y h T (s ∷ []) s 0 p f
      unfolding ProperFrom
      overshoot-edge d s p f a v =
          let (t, e) = v.open-list.applies in
          from-edge (s ∷ []) s 0 p f t (at-start s a) (open-trail Y d s p t v.open-list e)
          (figure-from s p ∙ v.figured) v.above
          (λ q i r e. within (sym (figure-from s q)) (v.proper q i r e))

      -- what a round without a plan leaves is the least overshoot
      pub next-least :
          (A : Allowance) (d : ℕ) (s : Y.State) (u w : ℕ) (o : Estimate) → Within (h s) T
          → round Y h A d s T u ≡ on w o
          → NextThreshold Y h T d s o
      next-least A d s u w o a e =
          let y = round-passed Y h T L A d s u w o e in
          record {
            least = λ p f v. y.below p f v.open-list.short (overshoot-edge d s p f a v);
            one_of =
                elim y.attained
                [ inl x ↦ inl x | inr x ↦ inr (x.0, x.1, edge-overshoot d s x.0 x.1 a x.2 x.3, x.4) ];
          }

-- so it is in every round that the search comes to
module _
    (Y : System) (h : Y.State → Estimate) {Legal : Y.State → Type 0} (L : Lawful Y Legal) (D B : ℕ) (s : Y.State)
    (A : Allowance) where
  pub start-within : (T u : ℕ) → RoundAt Y h D B s A T u → Within (h s) T
  start-within T u (first_round _ e) = within Y h T (sym e) (omega arith)
  start-within n w (further T u _ _ a l e) =
      within-mono (h s) T n (start-within T u a)
      (omega (arith, higher Y h D s T n (round-passed Y h T L A D s u w (at n) e)))

  pub next_threshold :
      (T u w : ℕ) (o : Estimate) → RoundAt Y h D B s A T u → round Y h A D s T u ≡ on w o → NextThreshold Y h T D s o
  next_threshold T u w o a e = next-least Y h T L A D s u w o (start-within T u a) e
