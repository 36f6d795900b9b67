-- What a part of a round says of the lists that it goes through (`Says`, `visit-says`): where it goes on, none of them
-- meets a goal and the least overshoot is theirs (`Passed`); where it finds a plan, that is the first of them that
-- meets a goal (`Struck`). Lists are `Visited`, or an `Edge`, by what is offered. The answer, the next threshold and
-- the log of a round rest on these.
use mathlib.Core.Path.{◌≡◌, refl, ap, subst, sym, ◌∙◌}
use mathlib.Core.Logic.{◌⊎◌, inl, inr}
use mathlib.Core.Bool.{Bool, true, false, true≢false}
use mathlib.Core.Option.{Option, none, some}
use mathlib.Core.List.{List, [], ◌∷◌}
use Prim.Native.Nat.{ℕ, zero, suc, ◌+◌, ◌≤◌, ◌<◌}
use native.Mathlib.Omega.{arith}
use lib.ListN.{length}
use Rattle.rounds.specs.Systems.{System, Estimate, mark, at, Within, lower, Lawful}
use Rattle.rounds.specs.OpenLists.{Before, total_cost}
use Rattle.rounds.specs.Rounds.{Allowance, allows, Progress, on, hit, stop, Offer, cut, overshoot, due, and_then}
use Rattle.rounds.specs.Rounds.{behind, take_up, arrive, Visitor, offered, offer, extend, visit, round}
use Rattle.rounds.proofs.EstimateLaws.{lower-within, lower-kept, lower-cases}
use Rattle.rounds.proofs.ListSets.{Short, Only, From, only-from, later-from, from-split, from-none, from-short}
use Rattle.rounds.proofs.ListSets.{only-sooner}

-- what holds of the state that is offered for a visit
abbrev pub OnDue : {S : Type 0} → Offer S → (S → Type 0) → Type 0
OnDue cut P = ⊥
OnDue (overshoot f) P = ⊥
OnDue (due m) P = P m

-- what holds where p is all that is left and its figure is f, or else of the state that is offered
abbrev pub OnEdge : {S : Type 0} → Offer S → List ℕ → ℕ → (S → Type 0) → Type 0
OnEdge cut p f P = ⊥
OnEdge (overshoot e) p f P = (p ≡ []) × (e ≡ f)
OnEdge (due m) p f P = P m

module _ (Y : System) (h : Y.State → Estimate) (T : ℕ) where
  -- from a list of cost g with last state s: the list that goes on by p is visited, and its last state is t
  abbrev pub Visited : List Y.State → Y.State → ℕ → List ℕ → Y.State → Type 0
  Visited seen s g [] t = s ≡ t
  Visited seen s g (r ∷ p) t = OnDue (offer Y h T seen s g r) (λ m. Visited (m ∷ seen) m (g + Y.cost r) p t)

  -- the list that goes on by p is the first above the threshold on its way, with figure f
  abbrev pub Edge : List Y.State → Y.State → ℕ → List ℕ → ℕ → Type 0
  Edge seen s g [] f = ⊥
  Edge seen s g (r ∷ p) f = OnEdge (offer Y h T seen s g r) p f (λ m. Edge (m ∷ seen) m (g + Y.cost r) p f)

  -- the list that goes on by p is visited and meets a goal
  abbrev pub Hits : List Y.State → Y.State → ℕ → List ℕ → Type 0
  Hits seen s g p = (t : Y.State) × Visited seen s g p t × (Y.goal t ≡ true)

  pub not-goal : (seen : List Y.State) (s : Y.State) (g : ℕ) → Y.goal s ≡ false → Hits seen s g [] → ⊥
  not-goal seen s g e x = true≢false (sym x.2 ∙ ap Y.goal (sym x.1) ∙ e)

  -- of the lists of Q none meets a goal; o was the least overshoot, and q is it now
  pub record Passed
      (seen : List Y.State) (s : Y.State) (g : ℕ) (Q : List ℕ → Type 0) (o q : Estimate)
      : Type 0 where
    pub missed : (p : List ℕ) → Q p → Hits seen s g p → ⊥
    pub below : (p : List ℕ) (f : ℕ) → Q p → Edge seen s g p f → Within q f
    pub kept : (f : ℕ) → Within o f → Within q f
    pub attained : (q ≡ o) ⊎ ((p : List ℕ) × (f : ℕ) × Q p × Edge seen s g p f × (q ≡ at f))

  -- of the lists of Q that meet a goal p is the first
  pub record Struck
      (seen : List Y.State) (s : Y.State) (g : ℕ) (Q : List ℕ → Type 0) (p : List ℕ) (c : ℕ)
      : Type 0 where
    pub inside : Q p
    pub hits : Hits seen s g p
    pub costs : c ≡ g + total_cost Y p
    pub first : (q : List ℕ) → Q q → Hits seen s g q → Before p q

  -- what a part of a round that goes through the lists of Q leaves
  abbrev pub Says : Allowance → List Y.State → Y.State → ℕ → (List ℕ → Type 0) → Estimate → Progress → Type 0
  Says A seen s g Q o (on u q) = Passed seen s g Q o q
  Says A seen s g Q o (hit u p c) = Struck seen s g Q p c
  Says A seen s g Q o (stop u) = allows A u ≡ false

  -- ---- one part after another

  module _ (A : Allowance) (seen : List Y.State) (s : Y.State) (g i k d : ℕ) where
    after_on :
        (o q : Estimate) (y : Progress) → Passed seen s g (Only i d) o q → Says A seen s g (From (suc i) k d) q y
        → Says A seen s g (From i (suc k) d) o y
    after_on o q (on u z) a b =
        record {
          missed = λ p w. elim (from-split i k d p w) [ inl x ↦ a.missed p x | inr x ↦ b.missed p x ];
          below =
              λ p f w e.
              elim (from-split i k d p w) [ inl x ↦ b.kept f (a.below p f x e) | inr x ↦ b.below p f x e ];
          kept = λ f w. b.kept f (a.kept f w);
          attained =
              elim b.attained
              [ inl e ↦ was e | inr e ↦ inr (e.0, e.1, later-from i k d e.0 e.2, e.3, e.4) ];
        }
      where
        was : z ≡ q → (z ≡ o) ⊎ ((p : List ℕ) × (f : ℕ) × From i (suc k) d p × Edge seen s g p f × (z ≡ at f))
        was e =
            elim a.attained
            [ inl f ↦ inl (e ∙ f) | inr f ↦ inr (f.0, f.1, only-from i k d f.0 f.2, f.3, e ∙ f.4) ]
    after_on o q (hit u p c) a b =
        record {
          inside = later-from i k d p b.inside;
          hits = b.hits;
          costs = b.costs;
          first = λ x w y. elim (from-split i k d x w) [ inl v ↦ absurd (a.missed x v y) | inr v ↦ b.first x v y ];
        }
    after_on o q (stop u) a b = b

    after :
        (o : Estimate) (x : Progress) (m : ℕ → Estimate → Progress) → Says A seen s g (Only i d) o x
        → ((u : ℕ) (q : Estimate) → Says A seen s g (From (suc i) k d) q (m u q))
        → Says A seen s g (From i (suc k) d) o (and_then x m)
    unfolding and_then
    after o (on u q) m a b = after_on o q (m u q) a (b u q)
    after o (hit u p c) m a b =
        record {
          inside = only-from i k d p a.inside;
          hits = a.hits;
          costs = a.costs;
          first =
              λ x w y.
              elim (from-split i k d x w) [ inl v ↦ a.first x v y | inr v ↦ (only-sooner i k d p x a.inside v).0 ];
        }
    after o (stop u) m a b = a

  -- ---- one rule

  module _
      (seen : List Y.State) (s : Y.State) (g i : ℕ) (x : Offer Y.State) (e : offer Y h T seen s g i ≡ x) where
    -- behind rule i, by what it offers, p is visited and comes to t
    abbrev VisitedBehind : List ℕ → Y.State → Offer Y.State → Type 0
    VisitedBehind p t y = OnDue y (λ m. Visited (m ∷ seen) m (g + Y.cost i) p t)

    pub visited-at :
        (r : ℕ) (p : List ℕ) (t : Y.State) → r ≡ i → Visited seen s g (r ∷ p) t → VisitedBehind p t x
    visited-at r p t q v =
        subst (VisitedBehind p t) e (subst (λ (j : ℕ). Visited seen s g (j ∷ p) t) q v)

    pub at-visited : (p : List ℕ) (t : Y.State) → VisitedBehind p t x → Visited seen s g (i ∷ p) t
    at-visited p t v = subst (VisitedBehind p t) (sym e) v

    -- a rule that offers no state leads to no visited list
    pub none-due :
        ((P : Y.State → Type 0) → OnDue x P → ⊥) → (d : ℕ) (p : List ℕ) (t : Y.State) → Only i d p
        → Visited seen s g p t → ⊥
    none-due n d [] t w v = w
    none-due n d (r ∷ p) t w v = n _ (visited-at r p t w.0 v)

    -- behind rule i, by what it offers, p is on the edge with the figure f
    abbrev EdgeBehind : List ℕ → ℕ → Offer Y.State → Type 0
    EdgeBehind p f y = OnEdge y p f (λ m. Edge (m ∷ seen) m (g + Y.cost i) p f)

    edge_at : (r : ℕ) (p : List ℕ) (f : ℕ) → r ≡ i → Edge seen s g (r ∷ p) f → EdgeBehind p f x
    edge_at r p f q v = subst (EdgeBehind p f) e (subst (λ (j : ℕ). Edge seen s g (j ∷ p) f) q v)

    pub at_edge : (p : List ℕ) (f : ℕ) → EdgeBehind p f x → Edge seen s g (i ∷ p) f
    at_edge p f v = subst (EdgeBehind p f) (sym e) v

  module _ (A : Allowance) (seen : List Y.State) (s : Y.State) (g i d : ℕ) where
    behind-says :
        (t : Y.State) → offer Y h T seen s g i ≡ due t → (o : Estimate) (y : Progress)
        → Says A (t ∷ seen) t (g + Y.cost i) (Short d) o y → Says A seen s g (Only i d) o (behind i y)
    unfolding behind
    behind-says t e o (on u q) a =
        record {
          missed = missed;
          below = below;
          kept = a.kept;
          attained =
              elim a.attained [
                | inl f ↦ inl f
                | inr f ↦ inr (i ∷ f.0, f.1, (refl, f.2), at_edge seen s g i (due t) e f.0 f.1 f.3, f.4)
              ];
        }
      where
        missed : (p : List ℕ) → Only i d p → Hits seen s g p → ⊥
        missed [] w x = absurd w
        missed (r ∷ p) w x = a.missed p w.1 (x.0, visited-at seen s g i (due t) e r p x.0 w.0 x.1, x.2)

        below : (p : List ℕ) (f : ℕ) → Only i d p → Edge seen s g p f → Within q f
        below [] f w x = absurd w
        below (r ∷ p) f w x = a.below p f w.1 (edge_at seen s g i (due t) e r p f w.0 x)
    behind-says t e o (hit u p c) a =
        record {
          inside = (refl, a.inside);
          hits = (a.hits.0, at-visited seen s g i (due t) e p a.hits.0 a.hits.1, a.hits.2);
          costs = omega (arith, a.costs);
          first = first;
        }
      where
        first : (q : List ℕ) → Only i d q → Hits seen s g q → Before (i ∷ p) q
        first [] w x = absurd w
        first (r ∷ q) w x =
            inr (sym w.0, a.first q w.1 (x.0, visited-at seen s g i (due t) e r q x.0 w.0 x.1, x.2))
    behind-says t e o (stop u) a = a

    take-up-says :
        (x : Offer Y.State) → offer Y h T seen s g i ≡ x → (next : Y.State → ℕ → Estimate → Progress)
        → ((t : Y.State) (u : ℕ) (o : Estimate) → Says A (t ∷ seen) t (g + Y.cost i) (Short d) o (next t u o))
        → (u : ℕ) (o : Estimate) → Says A seen s g (Only i d) o (take_up x i next u o)
    unfolding take_up
    take-up-says cut e next ih u o =
        record {
          missed = λ p w x. none-due seen s g i cut e (λ P z. z) d p x.0 w x.1;
          below = below;
          kept = λ f w. w;
          attained = inl refl;
        }
      where
        below : (p : List ℕ) (f : ℕ) → Only i d p → Edge seen s g p f → Within o f
        below [] f w x = absurd w
        below (r ∷ p) f w x = absurd (edge_at seen s g i cut e r p f w.0 x)
    take-up-says (overshoot z) e next ih u o =
        record {
          missed = λ p w x. none-due seen s g i (overshoot z) e (λ P y. y) d p x.0 w x.1;
          below = below;
          kept = λ f w. lower-kept z f o w;
          attained =
              elim (lower-cases z o) [
                | inl f ↦ inl f
                | inr f ↦ inr (i ∷ [], z, (refl, omega arith), at_edge seen s g i (overshoot z) e [] z (refl, refl), f)
              ];
        }
      where
        below : (p : List ℕ) (f : ℕ) → Only i d p → Edge seen s g p f → Within (lower z o) f
        below [] f w x = absurd w
        below (r ∷ p) f w x =
            lower-within z f o (let q = edge_at seen s g i (overshoot z) e r p f w.0 x in omega (arith, q.1))
    take-up-says (due t) e next ih u o = behind-says t e o (next t u o) (ih t u o)

  -- ---- the extensions of a list, and a visit

  module _ (A : Allowance) where
    extend-says :
        (d : ℕ) (next : Visitor Y.State)
        → ((seen : List Y.State) (s : Y.State) (g u : ℕ) (o : Estimate)
        → Says A seen s g (Short d) o (next seen s g u o))
        → (seen : List Y.State) (s : Y.State) (g k i u : ℕ) (o : Estimate)
        → Says A seen s g (From i k d) o (extend Y h T next seen s g k i u o)
    unfolding extend
    extend-says d next ih seen s g zero i u o =
        record {
          missed = λ p w x. from-none i d p w;
          below = λ p f w x. absurd (from-none i d p w);
          kept = λ f w. w;
          attained = inl refl;
        }
    extend-says d next ih seen s g (suc k) i u o =
        after A seen s g i k d o _ _
        (take-up-says A seen s g i d (offer Y h T seen s g i) refl _ (λ t w q. ih (t ∷ seen) t (g + Y.cost i) w q) u o)
        (λ w q. extend-says d next ih seen s g k (suc i) w q)

  module _ {Legal : Y.State → Type 0} (L : Lawful Y Legal) where
    -- where more is offered than nothing, r is one of the rules
    offer-rule :
        (seen : List Y.State) (s : Y.State) (g r : ℕ) (P : Offer Y.State → Type 0) → (P cut → ⊥)
        → P (offer Y h T seen s g r) → r < Y.rules
    unfolding offer
    offer-rule seen s g r P n w = go (Y.step r s) refl w
      where
        go : (x : Option Y.State) → Y.step r s ≡ x → P (offered Y h T seen (g + Y.cost r) x) → r < Y.rules
        go none e v = absurd (n v)
        go (some t) e v = L.numbered r s t e

    pub due-rule :
        (seen : List Y.State) (s : Y.State) (g r : ℕ) (P : Y.State → Type 0) → OnDue (offer Y h T seen s g r) P
        → r < Y.rules
    due-rule seen s g r P w = offer-rule seen s g r (λ x. OnDue x P) (λ v. v) w

    edge-rule :
        (seen : List Y.State) (s : Y.State) (g r : ℕ) (p : List ℕ) (f : ℕ) (P : Y.State → Type 0)
        → OnEdge (offer Y h T seen s g r) p f P → r < Y.rules
    edge-rule seen s g r p f P w = offer-rule seen s g r (λ x. OnEdge x p f P) (λ v. v) w

    module _ (A : Allowance) (seen : List Y.State) (s : Y.State) (g : ℕ) where
      -- the list itself meets no goal, and its extensions are told of
      widen :
          (d : ℕ) → Y.goal s ≡ false → (o : Estimate) (y : Progress) → Says A seen s g (From 0 Y.rules d) o y
          → Says A seen s g (Short (suc d)) o y
      widen d e o (on u q) a =
          record {
            missed = missed;
            below = below;
            kept = a.kept;
            attained =
                elim a.attained
                [ inl f ↦ inl f | inr f ↦ inr (f.0, f.1, from-short 0 Y.rules d f.0 f.2, f.3, f.4) ];
          }
        where
          missed : (p : List ℕ) → length p ≤ suc d → Hits seen s g p → ⊥
          missed [] l x = not-goal seen s g e x
          missed (r ∷ p) l x =
              a.missed (r ∷ p) (omega arith, omega (arith, due-rule seen s g r _ x.1), omega arith) x

          below : (p : List ℕ) (f : ℕ) → length p ≤ suc d → Edge seen s g p f → Within q f
          below [] f l x = absurd x
          below (r ∷ p) f l x =
              a.below (r ∷ p) f (omega arith, omega (arith, edge-rule seen s g r p f _ x), omega arith) x
      widen d e o (hit u p c) a =
          record { inside = from-short 0 Y.rules d p a.inside; hits = a.hits; costs = a.costs; first = first }
        where
          first : (q : List ℕ) → length q ≤ suc d → Hits seen s g q → Before p q
          first [] l x = absurd (not-goal seen s g e x)
          first (r ∷ q) l x = a.first (r ∷ q) (omega arith, omega (arith, due-rule seen s g r _ x.1), omega arith) x
      widen d e o (stop u) a = a

      alone : Y.goal s ≡ false → (o : Estimate) → Passed seen s g (Short 0) o o
      alone e o = record { missed = missed; below = below; kept = λ f w. w; attained = inl refl }
        where
          missed : (p : List ℕ) → length p ≤ 0 → Hits seen s g p → ⊥
          missed [] l x = not-goal seen s g e x
          missed (r ∷ p) l x = omega arith

          below : (p : List ℕ) (f : ℕ) → length p ≤ 0 → Edge seen s g p f → Within o f
          below [] f l x = absurd x
          below (r ∷ p) f l x = absurd (omega arith)

      arrive-says :
          (d : ℕ) (a b : Bool) (u : ℕ) (o : Estimate) (k : ℕ → Estimate → Progress) → allows A u ≡ a → Y.goal s ≡ b
          → (Y.goal s ≡ false → Says A seen s g (Short d) o (k (suc u) o))
          → Says A seen s g (Short d) o (arrive a b g u o k)
      unfolding arrive
      arrive-says d false b u o k x y go = x
      arrive-says d true true u o k x y go =
          record { inside = omega arith; hits = (s, refl, y); costs = omega arith; first = λ q l z. tt }
      arrive-says d true false u o k x y go = go y

    pub visit-says :
        (A : Allowance) (d : ℕ) (seen : List Y.State) (s : Y.State) (g u : ℕ) (o : Estimate)
        → Says A seen s g (Short d) o (visit Y h A T d seen s g u o)
    unfolding visit
    visit-says A zero seen s g u o =
        arrive-says A seen s g 0 (allows A u) (Y.goal s) u o on refl refl (λ e. alone A seen s g e o)
    visit-says A (suc d) seen s g u o =
        arrive-says A seen s g (suc d) (allows A u) (Y.goal s) u o _ refl refl
        (λ e. widen A seen s g d e o (extend Y h T (visit Y h A T d) seen s g Y.rules 0 (suc u) o)
        (extend-says A d (visit Y h A T d) (λ ss t c x y. visit-says A d ss t c x y) seen s g Y.rules 0 (suc u) o))

    -- a whole round
    pub round-says :
        (A : Allowance) (D : ℕ) (s : Y.State) (u : ℕ) → Says A (s ∷ []) s 0 (Short D) mark (round Y h A D s T u)
    unfolding round
    round-says A D s u = visit-says A D (s ∷ []) s 0 u mark

    pub round-passed :
        (A : Allowance) (D : ℕ) (s : Y.State) (u w : ℕ) (o : Estimate) → round Y h A D s T u ≡ on w o
        → Passed (s ∷ []) s 0 (Short D) mark o
    round-passed A D s u w o e = subst (Says A (s ∷ []) s 0 (Short D) mark) e (round-says A D s u)
