-- The visits of a search with no allowance are those of its rounds, added up (`visits-sum`), and with an allowance they
-- are counted so (`visits-counted`). Its thresholds are first the start's estimate (`first_threshold`) and then each
-- the next after a round at the one before (`consecutive`); they are just those at which a round is made
-- (`round-at-member`, `member-round-at`). A round is the same after any visits (`round-later`). The search on an
-- exercise rests on these.
use mathlib.Core.Path.{◌≡◌, refl, sym, ap, subst, ◌∙◌}
use mathlib.Core.Logic.{◌⊎◌, inl, inr}
use mathlib.Core.Bool.{Bool, true, false, cond}
use mathlib.Core.List.{List, [], ◌∷◌, map}
use Prim.Native.Nat.{ℕ, zero, suc, ◌+◌, ◌≤◌, ◌<◌}
use native.Mathlib.Omega.{arith}
use lib.Dec.{leb}
use lib.ListN.{length}
use borrow.Author.Tests.{leb-true, le-leb, lt-leb}
use Rattle.basics.specs.Lists.{total}
use Rattle.basics.proofs.Comparing.{below?}
use Rattle.rounds.specs.Systems.{System, Estimate, mark, at, Within, Lawful, Passing}
use Rattle.rounds.specs.Rounds.{free, upto, Progress, on, hit, stop, Answer, found, no_plan, spent, visits, Offer}
use Rattle.rounds.specs.Rounds.{cut, overshoot, due, and_then, behind, take_up, conclude, capped, begin, arrive}
use Rattle.rounds.specs.Rounds.{Visitor, offer, extend, visit, round, rounds, rounds_from, search}
use Rattle.rounds.specs.Logs.{Log, log, lists_of, Member, round_log}
use Rattle.rounds.specs.Promises.{NextThreshold}
use Rattle.rounds.specs.Thresholds.{next_after, round_visits, Consecutive, thresholds_from, thresholds, all_visits}
use Rattle.rounds.specs.Thresholds.{VisitsCounted, RoundAt, first_round, further}
use Rattle.rounds.proofs.OneRound.{round-passed}
use Rattle.rounds.proofs.Allowed.{upto-enough, upto-spent}
use Rattle.rounds.proofs.BestPlans.{higher}
use Rattle.rounds.proofs.LogCounts.{Counts, log-counts}
use Rattle.rounds.proofs.EstimateLaws.{mark-at, within-mono}
use Rattle.rounds.proofs.Demand.{never-spent}
use Rattle.rounds.proofs.Figures.{next-least}

-- ---- a round is the same after any visits

-- k visits later
unfoldable later : ℕ → Progress → Progress
later k (on u o) = on (k + u) o
later k (hit u p c) = hit (k + u) p c
later k (stop u) = stop (k + u)

later-on : (k u : ℕ) (o : Estimate) → on (k + u) o ≡ later k (on u o)
unfolding later
later-on k u o = refl

later-behind : (k r : ℕ) (x : Progress) → behind r (later k x) ≡ later k (behind r x)
unfolding later behind
later-behind k r (on u o) = refl
later-behind k r (hit u p c) = refl
later-behind k r (stop u) = refl

later-then :
    (k : ℕ) (x : Progress) (f : ℕ → Estimate → Progress) → ((u : ℕ) (o : Estimate) → f (k + u) o ≡ later k (f u o))
    → and_then (later k x) f ≡ later k (and_then x f)
unfolding later and_then
later-then k (on u o) f e = e u o
later-then k (hit u p c) f e = refl
later-then k (stop u) f e = refl

later-take :
    {S : Type 0} (k : ℕ) (x : Offer S) (r : ℕ) (next : S → ℕ → Estimate → Progress) (u : ℕ) (o : Estimate)
    → ((t : S) → next t (k + u) o ≡ later k (next t u o)) → take_up x r next (k + u) o ≡ later k (take_up x r next u o)
unfolding take_up
later-take k cut r next u o e = later-on k u o
later-take k (overshoot f) r next u o e = later-on k u _
later-take k (due t) r next u o e = ap (behind r) (e t) ∙ later-behind k r (next t u o)

later-arrive :
    (k : ℕ) (b : Bool) (g u : ℕ) (o : Estimate) (f : ℕ → Estimate → Progress)
    → ((w : ℕ) (q : Estimate) → f (k + w) q ≡ later k (f w q))
    → arrive true b g (k + u) o f ≡ later k (arrive true b g u o f)
unfolding later arrive
later-arrive k true g u o f e = ap (λ (n : ℕ). hit n [] g) (omega arith)
later-arrive k false g u o f e =
    let m : suc (k + u) ≡ k + suc u = omega arith in ap (λ (n : ℕ). f n o) m ∙ e (suc u) o

module _ (Y : System) (h : Y.State → Estimate) (T k : ℕ) where
  extend-later :
      (next : Visitor Y.State)
      → ((seen : List Y.State) (s : Y.State) (g u : ℕ) (o : Estimate)
      → next seen s g (k + u) o ≡ later k (next seen s g u o))
      → (seen : List Y.State) (s : Y.State) (g n i u : ℕ) (o : Estimate)
      → extend Y h T next seen s g n i (k + u) o ≡ later k (extend Y h T next seen s g n i u o)
  unfolding extend
  extend-later next ih seen s g zero i u o = later-on k u o
  extend-later next ih seen s g (suc n) i u o =
      ap (λ (x : Progress). and_then x (extend Y h T next seen s g n (suc i)))
      (later-take k (offer Y h T seen s g i) i _ u o (λ t. ih (t ∷ seen) t (g + Y.cost i) u o))
      ∙ later-then k _ _ (λ w q. extend-later next ih seen s g n (suc i) w q)

  visit-later :
      (d : ℕ) (seen : List Y.State) (s : Y.State) (g u : ℕ) (o : Estimate)
      → visit Y h free T d seen s g (k + u) o ≡ later k (visit Y h free T d seen s g u o)
  unfolding visit
  visit-later zero seen s g u o = later-arrive k (Y.goal s) g u o on (later-on k)
  visit-later (suc d) seen s g u o =
      later-arrive k (Y.goal s) g u o _
      (extend-later (visit Y h free T d) (λ ss t c x y. visit-later d ss t c x y) seen s g Y.rules 0)

  round-later : (D : ℕ) (s : Y.State) → round Y h free D s T k ≡ later k (round Y h free D s T 0)
  unfolding round
  round-later D s =
      let e : k ≡ k + 0 = omega arith in
      ap (λ (n : ℕ). visit Y h free T D (s ∷ []) s 0 n mark) e ∙ visit-later D (s ∷ []) s 0 0 mark

next-later : (k : ℕ) (x : Progress) → next_after (later k x) ≡ next_after x
unfolding later
next-later k (on u o) = refl
next-later k (hit u p c) = refl
next-later k (stop u) = refl

-- a round with a next threshold
next-on : (x : Progress) (t : ℕ) → next_after x ≡ at t → (w : ℕ) × (x ≡ on w (at t))
next-on (on u o) t e = (u, ap (on u) e)
next-on (hit u p c) t e = absurd (mark-at t e)
next-on (stop u) t e = absurd (mark-at t e)

-- ---- visits

module _ (Y : System) (h : Y.State → Estimate) (D B : ℕ) (s : Y.State) where
  -- the next threshold does not hang on the visits before the round
  next-any : (T u : ℕ) → next_after (round Y h free D s T u) ≡ next_after (round Y h free D s T 0)
  next-any T u = ap next_after (round-later Y h T u D s) ∙ next-later u (round Y h free D s T 0)

  -- the visits of the rounds at some thresholds
  abbrev sum_over : List ℕ → ℕ
  sum_over ts = total (map (round_visits Y h D s) ts)

  none_from : (n : ℕ) → sum_over (thresholds_from Y h D B s n mark) ≡ 0
  unfolding thresholds_from total
  none_from zero = refl
  none_from (suc n) = refl

  conclude-sum :
      (u n : ℕ) (x : Progress) (l : Log) (again : ℕ → ℕ → Answer) → Counts u x l
      → ((T w : ℕ) → visits (again T w) ≡ w + sum_over (thresholds_from Y h D B s n (at T)))
      → visits (conclude x again) ≡ u + (length (lists_of l) + sum_over (thresholds_from Y h D B s n (next_after x)))
  unfolding Counts conclude visits
  conclude-sum u n (on w mark) (log xs b) again c e = omega (arith, c.0, none_from n)
  conclude-sum u n (on w (at T)) (log xs b) again c e = omega (arith, c.0, e T w)
  conclude-sum u n (hit w p k) (log xs b) again c e = omega (arith, c.0, none_from n)
  conclude-sum u n (stop w) (log xs b) again c e = absurd c

  capped-sum :
      (b : Bool) (u T : ℕ) (ts : List ℕ) (k : ℕ → Answer) → visits (k u) ≡ u + (round_visits Y h D s T + sum_over ts)
      → visits (capped b u k) ≡ u + sum_over (cond b (T ∷ ts) [])
  unfolding capped visits total
  capped-sum true u T ts k e = e
  capped-sum false u T ts k e = omega arith

  rounds-sum : (n T u : ℕ) → visits (rounds Y h free D B s n T u) ≡ u + sum_over (thresholds_from Y h D B s n (at T))
  unfolding rounds thresholds_from
  rounds-sum zero T u = unfold visits total in omega arith
  rounds-sum (suc n) T u =
      capped-sum (leb T B) u T _ _
      (conclude-sum u n (round Y h free D s T u) (round_log Y h T D s) _ (log-counts Y h T D s u)
      (λ t w. rounds-sum n t w)
      ∙ ap
      (λ (e : Estimate). u + (round_visits Y h D s T + sum_over (thresholds_from Y h D B s n e))) (next-any T u))

  begin-sum :
      (e : Estimate) (k : ℕ → Answer)
      → ((T : ℕ) → visits (k T) ≡ sum_over (thresholds_from Y h D B s (suc B) (at T)))
      → visits (begin e k) ≡ sum_over (thresholds_from Y h D B s (suc B) e)
  unfolding begin
  begin-sum mark k e = unfold visits in sym (none_from (suc B))
  begin-sum (at T) k e = e T

  -- the search with no allowance makes the visits of its rounds
  pub visits-sum : visits (search Y h free D B s) ≡ all_visits Y h D B s
  unfolding search rounds_from thresholds
  visits-sum = begin-sum (h s) _ (λ T. omega (arith, rounds-sum (suc B) T 0))

  -- ---- the first threshold

  pub first_threshold :
      (T : ℕ) → h s ≡ at T → T ≤ B → (ts : List ℕ) × (thresholds Y h D B s ≡ T ∷ ts)
  unfolding thresholds thresholds_from
  first_threshold T e l = rw (e, le-leb T B l) (_, refl)

  -- a round is made at each threshold of the list
  made-from :
      (n x : ℕ) (e : Estimate) → ((T : ℕ) → e ≡ at T → (u : ℕ) × RoundAt Y h D B s free T u)
      → Member x (thresholds_from Y h D B s n e) → (x ≤ B) × ((u : ℕ) × RoundAt Y h D B s free x u)
  unfolding thresholds_from
  made-from zero x e f m = absurd m
  made-from (suc n) x mark f m = absurd m
  made-from (suc n) x (at T) f m =
      go (leb T B) refl m
      (λ l. made-from n x _ (λ t e.
      let (u, a) = f T refl in
      let (w, q) = next-on (round Y h free D s T u) t (next-any T u ∙ e) in
      (w, further T u w t a l q)))
    where
      go :
          (b : Bool) → leb T B ≡ b
          → Member x (cond b (T ∷ thresholds_from Y h D B s n (next_after (round Y h free D s T 0))) [])
          → (T ≤ B → Member x (thresholds_from Y h D B s n (next_after (round Y h free D s T 0)))
          → (x ≤ B) × ((u : ℕ) × RoundAt Y h D B s free x u))
          → (x ≤ B) × ((u : ℕ) × RoundAt Y h D B s free x u)
      go true e (inl q) ih =
          let l = leb-true T B e in
          let (u, a) = f T refl in
          (omega arith, (u, subst (λ (z : ℕ). RoundAt Y h D B s free z u) (sym q) a))
      go true e (inr k) ih = ih (leb-true T B e) k
      go false e k ih = absurd k

  pub member-round-at :
      (T : ℕ) → Member T (thresholds Y h D B s) → (T ≤ B) × ((u : ℕ) × RoundAt Y h D B s free T u)
  unfolding thresholds
  member-round-at T m = made-from (suc B) T (h s) (λ t e. (0, first_round t e)) m

  module _ {Legal : Y.State → Type 0} (L : Lawful Y Legal) where
    -- ---- each next one

    consecutive-cons :
        (T n : ℕ) (e : Estimate) → ((t : ℕ) → e ≡ at t → NextThreshold Y h T D s (at t))
        → Consecutive Y h D s (thresholds_from Y h D B s n e) → Consecutive Y h D s (T ∷ thresholds_from Y h D B s n e)
    unfolding thresholds_from
    consecutive-cons T zero e f c = tt
    consecutive-cons T (suc n) mark f c = tt
    consecutive-cons T (suc n) (at t) f c = go (leb t B) c
      where
        go :
            (b : Bool)
            → Consecutive Y h D s (cond b (t ∷ thresholds_from Y h D B s n (next_after (round Y h free D s t 0))) [])
            → Consecutive Y h D s
            (T ∷ cond b (t ∷ thresholds_from Y h D B s n (next_after (round Y h free D s t 0))) [])
        go true d = (f t refl, d)
        go false d = tt

    -- it is higher
    next-above : (T t : ℕ) → next_after (round Y h free D s T 0) ≡ at t → T < t
    next-above T t e =
        let (w, f) = next-on (round Y h free D s T 0) t e in
        higher Y h D s T t (round-passed Y h T L free D s 0 w (at t) f)

    next-is :
        (T t : ℕ) → Within (h s) T → next_after (round Y h free D s T 0) ≡ at t → NextThreshold Y h T D s (at t)
    next-is T t a e =
        let (w, f) = next-on (round Y h free D s T 0) t e in next-least Y h T L free D s 0 w (at t) a f

    consecutive-from :
        (n : ℕ) (e : Estimate) → ((T : ℕ) → e ≡ at T → Within (h s) T)
        → Consecutive Y h D s (thresholds_from Y h D B s n e)
    unfolding thresholds_from
    consecutive-from zero e w = tt
    consecutive-from (suc n) mark w = tt
    consecutive-from (suc n) (at T) w =
        capped-list _ (leb T B)
        (consecutive-cons T n _ (λ t e. next-is T t (w T refl) e)
        (consecutive-from n _
        (λ t e. within-mono (h s) T t (w T refl) (omega (arith, next-above T t e)))))
      where
        capped-list :
            (ts : List ℕ) (b : Bool) → Consecutive Y h D s ts → Consecutive Y h D s (cond b ts [])
        capped-list ts true c = c
        capped-list ts false c = tt

    pub consecutive : Consecutive Y h D s (thresholds Y h D B s)
    unfolding thresholds
    consecutive = consecutive-from (suc B) (h s) (λ T e. subst (λ (x : Estimate). Within x T) (sym e) (omega arith))

    -- ---- the rounds that are made

    -- counts that reach above the limit make no difference
    from-any :
        (n m : ℕ) (e : Estimate) → ((T : ℕ) → e ≡ at T → (suc B ≤ n + T) × (suc B ≤ m + T))
        → thresholds_from Y h D B s n e ≡ thresholds_from Y h D B s m e
    unfolding thresholds_from
    from-any zero zero e f = refl
    from-any zero (suc m) mark f = refl
    from-any (suc n) zero mark f = refl
    from-any (suc n) (suc m) mark f = refl
    from-any zero (suc m) (at T) f = rw (lt-leb T B (omega (arith, (f T refl).0))) refl
    from-any (suc n) zero (at T) f = rw (lt-leb T B (omega (arith, (f T refl).1))) refl
    from-any (suc n) (suc m) (at T) f =
        let (a, b) = f T refl in
        ap (λ (ts : List ℕ). cond (leb T B) (T ∷ ts) [])
        (from-any n m _ (λ t e. let c = next-above T t e in (omega arith, omega arith)))

    -- one threshold, then the others
    from-again :
        (T : ℕ) → T ≤ B
        → thresholds_from Y h D B s (suc B) (at T)
        ≡ T ∷ thresholds_from Y h D B s (suc B) (next_after (round Y h free D s T 0))
    unfolding thresholds_from
    from-again T l =
        rw (le-leb T B l)
        (ap (λ (ts : List ℕ). T ∷ ts)
        (from-any B (suc B) _ (λ t e. let c = next-above T t e in (omega arith, omega arith))))

    -- those from the threshold of a round on
    from_member :
        (T u x : ℕ) → RoundAt Y h D B s free T u → Member x (thresholds_from Y h D B s (suc B) (at T))
        → Member x (thresholds Y h D B s)
    unfolding thresholds
    from_member T u x (first_round _ e) m =
        subst (λ (z : Estimate). Member x (thresholds_from Y h D B s (suc B) z)) (sym e) m
    from_member n w x (further T u _ _ a l e) m =
        let f : next_after (round Y h free D s T 0) ≡ at n = sym (next-any T u) ∙ ap next_after e in
        from_member T u x a
        (subst (Member x) (sym (from-again T l))
        (inr (subst (λ (z : Estimate). Member x (thresholds_from Y h D B s (suc B) z)) (sym f) m)))

    pub round-at-member :
        (T u : ℕ) → RoundAt Y h D B s free T u → T ≤ B → Member T (thresholds Y h D B s)
    round-at-member T u a l = from_member T u T a (subst (Member T) (sym (from-again T l)) (inl refl))

    -- ---- with an allowance

    module _ (P : Passing Y Legal h) (good : Legal s) where
      unlimited-counted :
          (v : ℕ) (a : Answer) → search Y h free D B s ≡ a → visits a ≤ v → VisitsCounted Y h D B s v a
      unfolding visits
      unlimited-counted v (found u p c) e l = (ap visits (sym e) ∙ visits-sum, l)
      unlimited-counted v (no_plan u) e l = (ap visits (sym e) ∙ visits-sum, l)
      unlimited-counted v (spent u) e l = absurd (never-spent Y h L P D B s good u e)

      pub visits-counted : (v : ℕ) → VisitsCounted Y h D B s v (search Y h (upto v) D B s)
      visits-counted v = go (below? v (visits (search Y h free D B s)))
        where
          go :
              (v < visits (search Y h free D B s)) ⊎ (visits (search Y h free D B s) ≤ v)
              → VisitsCounted Y h D B s v (search Y h (upto v) D B s)
          go (inl l) =
              subst (VisitsCounted Y h D B s v) (sym (upto-spent Y h D B s v l)) (refl, omega (arith, l, visits-sum))
          go (inr l) =
              subst (VisitsCounted Y h D B s v) (sym (upto-enough Y h D B s v l))
              (unlimited-counted v (search Y h free D B s) refl l)
