-- Lists of rule numbers over a system: an open list as the rounds meet it, each new state against those seen (`Trail`,
-- `trail-open`, `open-trail`), and that loops can be cut out: a list that reaches a goal has an open one of no more
-- rules and no more cost (`shortcut`). What is shown of visited lists and of plans rests on these.
use mathlib.Core.Path.{◌≡◌, refl, ap, ap₂, subst, sym, ◌∙◌}
use mathlib.Core.Bool.{Bool, true, false, ◌||◌, false≢true}
use mathlib.Core.Option.{Option, none, some, none-ne-some, some-injective, bind}
use mathlib.Core.List.{List, [], ◌∷◌}
use Prim.Native.Nat.{ℕ, ◌≤◌}
use native.Mathlib.Omega.{arith}
use lib.ListN.{length}
use Rattle.basics.proofs.Truth.{true-false, not_so, or-false}
use Rattle.rounds.specs.Systems.{System, Lawful}
use Rattle.rounds.specs.OpenLists.{Avoids, Once, follow, run, total_cost, rest, path, Open, Reaches}
use Rattle.rounds.specs.Rounds.{occurs}

-- each of a list is none of another
abbrev pub Apart : {A : Type 0} → List A → List A → Type 0
Apart [] seen = Unit {0}
Apart (x ∷ xs) seen = Avoids x seen × Apart xs seen

apart-nil : {A : Type 0} (xs : List A) → Apart xs []
apart-nil [] = tt
apart-nil (x ∷ xs) = (tt, apart-nil xs)

apart_cons : {A : Type 0} (m : A) (xs seen : List A) → Avoids m xs → Apart xs seen → Apart xs (m ∷ seen)
apart_cons m [] seen a b = tt
apart_cons m (x ∷ xs) seen a b = ((λ e. a.0 (sym e), b.0), apart_cons m xs seen a.1 b.1)

apart-head : {A : Type 0} (m : A) (xs seen : List A) → Apart xs (m ∷ seen) → Avoids m xs
apart-head m [] seen a = tt
apart-head m (x ∷ xs) seen a = (λ e. a.0.0 (sym e), apart-head m xs seen a.1)

apart-tail : {A : Type 0} (m : A) (xs seen : List A) → Apart xs (m ∷ seen) → Apart xs seen
apart-tail m [] seen a = tt
apart-tail m (x ∷ xs) seen a = (a.0.1, apart-tail m xs seen a.1)

module _ (Y : System) where
  pub run_step : (r : ℕ) (s m : Y.State) (p : List ℕ) → Y.step r s ≡ some m → run Y s (r ∷ p) ≡ run Y m p
  unfolding bind
  run_step r s m p e = ap (λ (x : Option Y.State). bind x (λ t. run Y t p)) e

  pub rest-step : (r : ℕ) (s m : Y.State) (p : List ℕ) → Y.step r s ≡ some m → rest Y s (r ∷ p) ≡ path Y m p
  rest-step r s m p e = ap (λ (x : Option Y.State). follow x (λ t. t ∷ rest Y t p)) e

  run-split :
      (x : Option Y.State) (p : List ℕ) (t : Y.State) → bind x (λ m. run Y m p) ≡ some t
      → (m : Y.State) × (x ≡ some m) × (run Y m p ≡ some t)
  unfolding bind
  run-split none p t e = absurd (none-ne-some t e)
  run-split (some m) p t e = (m, refl, e)

  pub run-cons :
      (r : ℕ) (s : Y.State) (p : List ℕ) (t : Y.State) → run Y s (r ∷ p) ≡ some t
      → (m : Y.State) × (Y.step r s ≡ some m) × (run Y m p ≡ some t)
  run-cons r s p t e = run-split (Y.step r s) p t e

  -- ---- trails

  -- the rules of a list apply in turn from s, up to t; no state on the way is seen before
  abbrev pub Trail : List Y.State → Y.State → List ℕ → Y.State → Type 0
  Trail seen s [] t = s ≡ t
  Trail seen s (r ∷ p) t = (m : Y.State) × (Y.step r s ≡ some m) × Avoids m seen × Trail (m ∷ seen) m p t

  pub trail-run :
      (seen : List Y.State) (s : Y.State) (p : List ℕ) (t : Y.State) → Trail seen s p t → run Y s p ≡ some t
  trail-run seen s [] t w = ap some w
  trail-run seen s (r ∷ p) t w = run_step r s w.0 p w.1 ∙ trail-run (w.0 ∷ seen) w.0 p t w.3

  trail-of :
      (seen : List Y.State) (s : Y.State) (p : List ℕ) (t : Y.State) → run Y s p ≡ some t → Once (rest Y s p)
      → Apart (rest Y s p) seen → Trail seen s p t
  trail-of seen s [] t e o a = some-injective s t e
  trail-of seen s (r ∷ p) t e o a =
      let (m, q, f) = run-cons r s p t e in
      let o' : Once (path Y m p) = subst Once (rest-step r s m p q) o in
      let a' : Apart (path Y m p) seen = subst (λ (xs : List Y.State). Apart xs seen) (rest-step r s m p q) a in
      (m, q, a'.0, trail-of (m ∷ seen) m p t f o'.1 (apart_cons m (rest Y m p) seen o'.0 a'.1))

  trail-rest :
      (seen : List Y.State) (s : Y.State) (p : List ℕ) (t : Y.State) → Trail seen s p t
      → Once (rest Y s p) × Apart (rest Y s p) seen
  trail-rest seen s [] t w = (tt, tt)
  trail-rest seen s (r ∷ p) t w =
      let m : Y.State = w.0 in
      let (o, a) = trail-rest (m ∷ seen) m p t w.3 in
      subst (λ (xs : List Y.State). Once xs × Apart xs seen) (sym (rest-step r s m p w.1))
      ((apart-head m (rest Y m p) seen a, o), (w.2, apart-tail m (rest Y m p) seen a))

  pub open-trail :
      (d : ℕ) (s : Y.State) (p : List ℕ) (t : Y.State) → Open Y d s p → run Y s p ≡ some t → Trail (s ∷ []) s p t
  open-trail d s p t w e =
      trail-of (s ∷ []) s p t e w.once.1 (apart_cons s (rest Y s p) [] w.once.0 (apart-nil (rest Y s p)))

  pub trail-open :
      (d : ℕ) (s : Y.State) (p : List ℕ) (t : Y.State) → Trail (s ∷ []) s p t → length p ≤ d → Open Y d s p
  trail-open d s p t w l =
      let (o, a) = trail-rest (s ∷ []) s p t w in
      record { applies = (t, trail-run (s ∷ []) s p t w); once = (apart-head s (rest Y s p) [] a, o); short = l }

  -- ---- loops are cut out

  -- a list from s to t that passes no state twice, no longer than p and no dearer
  pub record Loopless (s t : Y.State) (p : List ℕ) : Type 0 where
    pub plan : List ℕ
    pub runs : run Y s plan ≡ some t
    pub once : Once (path Y s plan)
    pub shorter : length plan ≤ length p
    pub cheaper : total_cost Y plan ≤ total_cost Y p

  module _ {Legal : Y.State → Type 0} (L : Lawful Y Legal) where
    pub fresh-avoids : (x : Y.State) (ys : List Y.State) → occurs Y x ys ≡ false → Avoids x ys
    fresh-avoids x [] e = tt
    fresh-avoids x (y ∷ ys) e =
        let (a, b) = or-false (Y.same x y) (occurs Y x ys) e in
        (λ q. true-false (L.same_refl x) (ap (Y.same x) q ∙ a), fresh-avoids x ys b)

    pub avoids-fresh : (x : Y.State) (ys : List Y.State) → Avoids x ys → occurs Y x ys ≡ false
    avoids-fresh x [] a = refl
    avoids-fresh x (y ∷ ys) a =
        ap₂ ◌||◌ (not_so (Y.same x y) (λ e. a.0 (L.same_eq x y e))) (avoids-fresh x ys a.1)

    -- from a state on the path of a list, its end is as good
    tail-or :
        (x m t : Y.State) (p : List ℕ) (b : Bool) → Y.same x m ≡ b → (b || occurs Y x (rest Y m p)) ≡ true
        → run Y m p ≡ some t → Once (path Y m p) → (occurs Y x (rest Y m p) ≡ true → Loopless x t p) → Loopless x t p
    tail-or x m t p true e f w o go =
        subst (λ (z : Y.State). Loopless z t p) (sym (L.same_eq x m e))
        (record { plan = p; runs = w; once = o; shorter = omega arith; cheaper = omega arith })
    tail-or x m t p false e f w o go = go f

    weaken :
        (s t : Y.State) (p q : List ℕ) → length p ≤ length q → total_cost Y p ≤ total_cost Y q → Loopless s t p
        → Loopless s t q
    weaken s t p q l c w =
        record {
          plan = w.plan;
          runs = w.runs;
          once = w.once;
          shorter = omega (arith, w.shorter);
          cheaper = omega (arith, w.cheaper);
        }

    tail_from :
        (x m t : Y.State) (p : List ℕ) → occurs Y x (path Y m p) ≡ true → run Y m p ≡ some t → Once (path Y m p)
        → Loopless x t p
    tail_from x m t [] e w o = tail-or x m t [] (Y.same x m) refl e w o (λ f. absurd (false≢true f))
    tail_from x m t (r ∷ p) e w o =
        let (n, q, f) = run-cons r m p t w in
        let rs : rest Y m (r ∷ p) ≡ path Y n p = rest-step r m n p q in
        tail-or x m t (r ∷ p) (Y.same x m) refl e w o
        (λ g.
        weaken x t p (r ∷ p) (omega arith) (omega arith)
        (tail_from x n t p (subst (λ (xs : List Y.State). occurs Y x xs ≡ true) rs g) f (subst Once rs o.1)))

    -- one rule in front of a list with no loop
    front :
        (s m t : Y.State) (r : ℕ) (p : List ℕ) → Y.step r s ≡ some m → (c : Loopless m t p) (b : Bool)
        → occurs Y s (path Y m c.plan) ≡ b → Loopless s t (r ∷ p)
    front s m t r p q c true e =
        weaken s t c.plan (r ∷ p) (omega (arith, c.shorter)) (omega (arith, c.cheaper))
        (tail_from s m t c.plan e c.runs c.once)
    front s m t r p q c false e =
        record {
          plan = r ∷ c.plan;
          runs = run_step r s m c.plan q ∙ c.runs;
          once =
              subst (λ (xs : List Y.State). Once (s ∷ xs)) (sym (rest-step r s m c.plan q))
              (fresh-avoids s (path Y m c.plan) e, c.once);
          shorter = omega (arith, c.shorter);
          cheaper = omega (arith, c.cheaper);
        }

    pub loopless : (s t : Y.State) (p : List ℕ) → run Y s p ≡ some t → Loopless s t p
    loopless s t [] e = record { plan = []; runs = e; once = (tt, tt); shorter = omega arith; cheaper = omega arith }
    loopless s t (r ∷ p) e =
        let (m, q, f) = run-cons r s p t e in
        let c : Loopless m t p = loopless m t p f in
        front s m t r p q c (occurs Y s (path Y m c.plan)) refl

    -- any list within d rules that reaches a goal can be shortened
    -- to an open one, with no more steps and at no more cost
    pub shortcut :
        (d : ℕ) (s : Y.State) (p : List ℕ) → Reaches Y s p → length p ≤ d
        → (q : List ℕ) × Open Y d s q × Reaches Y s q × (length q ≤ length p) × (total_cost Y q ≤ total_cost Y p)
    shortcut d s p w l =
        let c : Loopless s w.final p = loopless s w.final p w.runs in (
          c.plan,
          record { applies = (w.final, c.runs); once = c.once; short = omega (arith, c.shorter) },
          record { final = w.final; runs = c.runs; meets = w.meets },
          c.shorter,
          c.cheaper,
        )
