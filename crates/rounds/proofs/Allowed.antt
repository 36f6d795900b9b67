-- What an allowance changes: with one of v visits the search answers as with none where that makes at most v visits
-- (`upto-enough`), and else 'spent' after v (`upto-spent`). Shown part by part: visits are only added (`visit-rises`),
-- and each part with the allowance is the part without, or stops (`visit-held`). The promises on 'spent' rest on these.
use mathlib.Core.Path.{◌≡◌, refl, ap, subst, sym}
use mathlib.Core.Logic.{◌⊎◌, inl, inr}
use mathlib.Core.Bool.{Bool, true, false}
use mathlib.Core.List.{List, [], ◌∷◌}
use Prim.Native.Nat.{ℕ, zero, suc, ◌+◌, ◌≤◌, ◌<◌}
use native.Mathlib.Omega.{arith}
use lib.Dec.{leb, ltb}
use borrow.Author.Tests.{ltb-true, ltb-false}
use Rattle.rounds.specs.Systems.{System, Estimate, mark, at}
use Rattle.rounds.specs.Rounds.{free, upto, Progress, on, hit, stop, Answer, no_plan, spent, visits, Offer, cut}
use Rattle.rounds.specs.Rounds.{overshoot, due, and_then, behind, take_up, conclude, capped, begin, arrive, Visitor}
use Rattle.rounds.specs.Rounds.{offer, extend, visit, round, rounds, rounds_from, search}

-- the visits used
unfoldable pub used : Progress → ℕ
used (on u o) = u
used (hit u p c) = u
used (stop u) = u

-- x, with an allowance of v, against y, with none
unfoldable pub Held : ℕ → Progress → Progress → Type 0
Held v x y = ((used y ≤ v) × (x ≡ y)) ⊎ ((v < used y) × (x ≡ stop v))

-- the same of answers
unfoldable pub HeldAnswer : ℕ → Answer → Answer → Type 0
HeldAnswer v x y = ((visits y ≤ v) × (x ≡ y)) ⊎ ((v < visits y) × (x ≡ spent v))

held_on : (v u : ℕ) (o : Estimate) → u ≤ v → Held v (on u o) (on u o)
unfolding Held used
held_on v u o l = inl (l, refl)

held-no_plan : (v u : ℕ) → u ≤ v → HeldAnswer v (no_plan u) (no_plan u)
unfolding HeldAnswer visits
held-no_plan v u l = inl (l, refl)

-- ---- visits are only added

used-on : (u : ℕ) (o : Estimate) → u ≤ used (on u o)
unfolding used
used-on u o = omega arith

used-no_plan : (u : ℕ) → u ≤ visits (no_plan u)
unfolding visits
used-no_plan u = omega arith

used-behind : (r : ℕ) (x : Progress) → used (behind r x) ≡ used x
unfolding used behind
used-behind r (on w o) = refl
used-behind r (hit w p c) = refl
used-behind r (stop w) = refl

used-take-up :
    {S : Type 0} (f : Offer S) (r : ℕ) (next : S → ℕ → Estimate → Progress) (u : ℕ) (o : Estimate)
    → ((t : S) → u ≤ used (next t u o)) → u ≤ used (take_up f r next u o)
unfolding used take_up
used-take-up cut r next u o rise = omega arith
used-take-up (overshoot f) r next u o rise = omega arith
used-take-up (due t) r next u o rise = omega (arith, used-behind r (next t u o), rise t)

used-then :
    (x : Progress) (k : ℕ → Estimate → Progress) (u : ℕ) → u ≤ used x → ((w : ℕ) (o : Estimate) → w ≤ used (k w o))
    → u ≤ used (and_then x k)
unfolding used and_then
used-then (on w o) k u l rise = omega (arith, rise w o)
used-then (hit w p c) k u l rise = l
used-then (stop w) k u l rise = l

-- ---- one step, with an allowance and without

held-behind : (v r : ℕ) (x y : Progress) → Held v x y → Held v (behind r x) (behind r y)
unfolding Held behind
held-behind v r x y (inl e) = inl (omega (arith, used-behind r y, e.0), ap (behind r) e.1)
held-behind v r x y (inr e) = inr (omega (arith, used-behind r y, e.0), ap (behind r) e.1)

held-take-up :
    {S : Type 0} (v : ℕ) (f : Offer S) (r : ℕ) (next other : S → ℕ → Estimate → Progress) (u : ℕ) (o : Estimate) → u ≤ v
    → ((t : S) → Held v (next t u o) (other t u o)) → Held v (take_up f r next u o) (take_up f r other u o)
unfolding Held used take_up
held-take-up v cut r next other u o l held = inl (l, refl)
held-take-up v (overshoot f) r next other u o l held = inl (l, refl)
held-take-up v (due t) r next other u o l held = held-behind v r (next t u o) (other t u o) (held t)

-- where the first part is the same
held-from :
    (v : ℕ) (y : Progress) (k m : ℕ → Estimate → Progress) → used y ≤ v
    → ((w : ℕ) (o : Estimate) → w ≤ v → Held v (k w o) (m w o)) → Held v (and_then y k) (and_then y m)
unfolding Held used and_then
held-from v (on w o) k m l held = held w o l
held-from v (hit w p c) k m l held = inl (l, refl)
held-from v (stop w) k m l held = inl (l, refl)

held_then :
    (v : ℕ) (x y : Progress) (k m : ℕ → Estimate → Progress) → Held v x y
    → ((w : ℕ) (o : Estimate) → w ≤ v → Held v (k w o) (m w o)) → ((w : ℕ) (o : Estimate) → w ≤ used (m w o))
    → Held v (and_then x k) (and_then y m)
unfolding Held and_then
held_then v x y k m (inl e) held rise =
    subst (λ (z : Progress). Held v (and_then z k) (and_then y m)) (sym e.1) (held-from v y k m e.0 held)
held_then v x y k m (inr e) held rise =
    inr (omega (arith, used-then y m (used y) (omega arith) rise, e.0), ap (λ (z : Progress). and_then z k) e.1)

rises-arrive :
    (b : Bool) (g u : ℕ) (o : Estimate) (k : ℕ → Estimate → Progress) → ((w : ℕ) (q : Estimate) → w ≤ used (k w q))
    → u < used (arrive true b g u o k)
unfolding used arrive
rises-arrive true g u o k rise = omega arith
rises-arrive false g u o k rise = rise (suc u) o

held-arrive :
    (v : ℕ) (a b : Bool) (g u : ℕ) (o : Estimate) (k m : ℕ → Estimate → Progress) → u ≤ v → ltb u v ≡ a
    → ((w : ℕ) (q : Estimate) → w ≤ v → Held v (k w q) (m w q)) → ((w : ℕ) (q : Estimate) → w ≤ used (m w q))
    → Held v (arrive a b g u o k) (arrive true b g u o m)
unfolding Held used arrive
held-arrive v true true g u o k m l e held rise = inl (ltb-true u v e, refl)
held-arrive v true false g u o k m l e held rise = held (suc u) o (ltb-true u v e)
held-arrive v false b g u o k m l e held rise =
    inr (omega (arith, rises-arrive b g u o m rise, ltb-false u v e), ap stop (omega (arith, ltb-false u v e)))

-- ---- a round

module _ (Y : System) (h : Y.State → Estimate) (T : ℕ) where
  extend-rises :
      (next : Visitor Y.State)
      → ((seen : List Y.State) (s : Y.State) (g u : ℕ) (o : Estimate) → u ≤ used (next seen s g u o))
      → (seen : List Y.State) (s : Y.State) (g k i u : ℕ) (o : Estimate)
      → u ≤ used (extend Y h T next seen s g k i u o)
  unfolding extend
  extend-rises next rise seen s g zero i u o = used-on u o
  extend-rises next rise seen s g (suc k) i u o =
      used-then _ _ u
      (used-take-up (offer Y h T seen s g i) i _ u o (λ t. rise (t ∷ seen) t (g + Y.cost i) u o))
      (λ w q. extend-rises next rise seen s g k (suc i) w q)

  pub visit-rises :
      (d : ℕ) (seen : List Y.State) (s : Y.State) (g u : ℕ) (o : Estimate)
      → u < used (visit Y h free T d seen s g u o)
  unfolding visit
  visit-rises zero seen s g u o = rises-arrive (Y.goal s) g u o on used-on
  visit-rises (suc d) seen s g u o =
      rises-arrive (Y.goal s) g u o _
      (extend-rises (visit Y h free T d) (λ ss t c x y. omega (arith, visit-rises d ss t c x y)) seen s g Y.rules 0)

  visit-keeps :
      (d : ℕ) (seen : List Y.State) (s : Y.State) (g u : ℕ) (o : Estimate)
      → u ≤ used (visit Y h free T d seen s g u o)
  visit-keeps d seen s g u o = omega (arith, visit-rises d seen s g u o)

  extend-held :
      (v : ℕ) (next other : Visitor Y.State)
      → ((seen : List Y.State) (s : Y.State) (g u : ℕ) (o : Estimate) → u ≤ v
      → Held v (next seen s g u o) (other seen s g u o))
      → ((seen : List Y.State) (s : Y.State) (g u : ℕ) (o : Estimate) → u ≤ used (other seen s g u o))
      → (seen : List Y.State) (s : Y.State) (g k i u : ℕ) (o : Estimate) → u ≤ v
      → Held v (extend Y h T next seen s g k i u o) (extend Y h T other seen s g k i u o)
  unfolding extend
  extend-held v next other held rise seen s g zero i u o l = held_on v u o l
  extend-held v next other held rise seen s g (suc k) i u o l =
      held_then v _ _ _ _
      (held-take-up v (offer Y h T seen s g i) i _ _ u o l (λ t. held (t ∷ seen) t (g + Y.cost i) u o l))
      (λ w q m. extend-held v next other held rise seen s g k (suc i) w q m)
      (λ w q. extend-rises other rise seen s g k (suc i) w q)

  pub visit-held :
      (v d : ℕ) (seen : List Y.State) (s : Y.State) (g u : ℕ) (o : Estimate) → u ≤ v
      → Held v (visit Y h (upto v) T d seen s g u o) (visit Y h free T d seen s g u o)
  unfolding visit
  visit-held v zero seen s g u o l = held-arrive v (ltb u v) (Y.goal s) g u o on on l refl (held_on v) used-on
  visit-held v (suc d) seen s g u o l =
      held-arrive v (ltb u v) (Y.goal s) g u o _ _ l refl
      (λ w q m. extend-held v (visit Y h (upto v) T d) (visit Y h free T d) (λ ss t c x y. visit-held v d ss t c x y)
      (visit-keeps d) seen s g Y.rules 0 w q m)
      (extend-rises (visit Y h free T d) (visit-keeps d) seen s g Y.rules 0)

-- ---- the rounds

conclude-rises :
    (x : Progress) (again : ℕ → ℕ → Answer) (u : ℕ) → u ≤ used x → ((T w : ℕ) → w ≤ visits (again T w))
    → u ≤ visits (conclude x again)
unfolding used visits conclude
conclude-rises (on w mark) again u l rise = l
conclude-rises (on w (at T)) again u l rise = omega (arith, rise T w)
conclude-rises (hit w p c) again u l rise = l
conclude-rises (stop w) again u l rise = l

conclude-from :
    (v : ℕ) (y : Progress) (k m : ℕ → ℕ → Answer) → used y ≤ v → ((T w : ℕ) → w ≤ v → HeldAnswer v (k T w) (m T w))
    → HeldAnswer v (conclude y k) (conclude y m)
unfolding HeldAnswer used visits conclude
conclude-from v (on w mark) k m l held = inl (l, refl)
conclude-from v (on w (at T)) k m l held = held T w l
conclude-from v (hit w p c) k m l held = inl (l, refl)
conclude-from v (stop w) k m l held = inl (l, refl)

held-conclude :
    (v : ℕ) (x y : Progress) (k m : ℕ → ℕ → Answer) → Held v x y → ((T w : ℕ) → w ≤ v → HeldAnswer v (k T w) (m T w))
    → ((T w : ℕ) → w ≤ visits (m T w)) → HeldAnswer v (conclude x k) (conclude y m)
unfolding Held HeldAnswer conclude
held-conclude v x y k m (inl e) held rise =
    subst (λ (z : Progress). HeldAnswer v (conclude z k) (conclude y m)) (sym e.1)
    (conclude-from v y k m e.0 held)
held-conclude v x y k m (inr e) held rise =
    inr (
      omega (arith, conclude-rises y m (used y) (omega arith) rise, e.0),
      ap (λ (z : Progress). conclude z k) e.1,
    )

capped-rises : (b : Bool) (u : ℕ) (k : ℕ → Answer) → u ≤ visits (k u) → u ≤ visits (capped b u k)
unfolding visits capped
capped-rises true u k rise = rise
capped-rises false u k rise = omega arith

held-capped :
    (v : ℕ) (b : Bool) (u : ℕ) (k m : ℕ → Answer) → u ≤ v → HeldAnswer v (k u) (m u)
    → HeldAnswer v (capped b u k) (capped b u m)
unfolding HeldAnswer visits capped
held-capped v true u k m l held = held
held-capped v false u k m l held = inl (l, refl)

held-begin :
    (v : ℕ) (e : Estimate) (k m : ℕ → Answer) → ((T : ℕ) → HeldAnswer v (k T) (m T))
    → HeldAnswer v (begin e k) (begin e m)
unfolding HeldAnswer visits begin
held-begin v mark k m held = inl (omega arith, refl)
held-begin v (at T) k m held = held T

module _ (Y : System) (h : Y.State → Estimate) (D B : ℕ) (s : Y.State) where
  rounds-rise : (n T u : ℕ) → u ≤ visits (rounds Y h free D B s n T u)
  unfolding rounds round
  rounds-rise zero T u = used-no_plan u
  rounds-rise (suc n) T u =
      capped-rises (leb T B) u _
      (conclude-rises _ _ u (omega (arith, visit-rises Y h T D (s ∷ []) s 0 u mark)) (λ t w. rounds-rise n t w))

  rounds-held : (v n T u : ℕ) → u ≤ v → HeldAnswer v (rounds Y h (upto v) D B s n T u) (rounds Y h free D B s n T u)
  unfolding rounds round
  rounds-held v zero T u l = held-no_plan v u l
  rounds-held v (suc n) T u l =
      held-capped v (leb T B) u _ _ l
      (held-conclude v _ _ _ _ (visit-held Y h T v D (s ∷ []) s 0 u mark l) (λ t w m. rounds-held v n t w m)
      (λ t w. rounds-rise n t w))

  search-held : (v : ℕ) → HeldAnswer v (search Y h (upto v) D B s) (search Y h free D B s)
  unfolding search rounds_from
  search-held v = held-begin v (h s) _ _ (λ T. rounds-held v (suc B) T 0 (omega arith))

  -- the search with no allowance makes at most v visits: v are enough, and the answer is the same
  pub upto-enough : (v : ℕ) → visits (search Y h free D B s) ≤ v → search Y h (upto v) D B s ≡ search Y h free D B s
  unfolding HeldAnswer
  upto-enough v l = elim (search-held v) [ inl e ↦ e.1 | inr e ↦ absurd (omega arith) ]

  -- it makes more: the answer is 'spent', after v
  pub upto-spent : (v : ℕ) → v < visits (search Y h free D B s) → search Y h (upto v) D B s ≡ spent v
  unfolding HeldAnswer
  upto-spent v l = elim (search-held v) [ inl e ↦ absurd (omega arith) | inr e ↦ e.1 ]
