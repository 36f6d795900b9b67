-- The log of a round holds just the visited lists up to the first that meets a goal, each once,
-- in the order by rule numbers: by what is offered (`log-says`), and by the definitions alone
-- (`log-exactly`; `log-at-round`, for the rounds of a search). Shown part by part (`Holds`).
-- With the count of the log, this shows what visits are counted of; nothing else rests on it.
use mathlib.Core.Path.{◌≡◌, refl, ap, subst, sym}
use mathlib.Core.Logic.{◌⊎◌, inl, inr, ◌↔◌}
use mathlib.Core.Bool.{Bool, true, false}
use mathlib.Core.List.{List, [], ◌∷◌, ◌++◌, map, tail-eq_of_cons-eq}
use Prim.Native.Nat.{ℕ, zero, suc, ◌+◌, ◌≤◌}
use native.Mathlib.Omega.{arith}
use lib.ListN.{length}
use Rattle.rounds.specs.Systems.{System, Estimate, Within, Lawful}
use Rattle.rounds.specs.OpenLists.{Before, Sooner}
use Rattle.rounds.specs.Rounds.{Allowance, Offer, cut, overshoot, due, offer}
use Rattle.rounds.specs.Logs.{Log, log, Member, Rising, log_after, log_then, log_behind, log_take, log_arrive}
use Rattle.rounds.specs.Logs.{log_extend, log_visit, round_log, Logged}
use Rattle.rounds.specs.Thresholds.{RoundAt}
use Rattle.rounds.proofs.OpenListLaws.{trail-run}
use Rattle.rounds.proofs.ListSets.{Short, Only, From, only-from, later-from, from-split, from-none, from-short}
use Rattle.rounds.proofs.ListSets.{only-sooner}
use Rattle.rounds.proofs.OneRound.{OnDue, Visited, Hits, not-goal, visited-at, none-due, at-visited, due-rule}
use Rattle.rounds.proofs.ReachingLists.{visited-trail}
use Rattle.rounds.proofs.Demand.{before-antisym}
use Rattle.rounds.proofs.Figures.{visited-in, in-visited, start-within}

member-append : (p : List ℕ) (xs ys : List (List ℕ)) → Member p (xs ++ ys) → Member p xs ⊎ Member p ys
member-append p [] ys m = inr m
member-append p (x ∷ xs) ys (inl e) = inl (inl e)
member-append p (x ∷ xs) ys (inr m) = elim (member-append p xs ys m) [ inl a ↦ inl (inr a) | inr a ↦ inr a ]

member-left : (p : List ℕ) (xs ys : List (List ℕ)) → Member p xs → Member p (xs ++ ys)
member-left p [] ys m = absurd m
member-left p (x ∷ xs) ys (inl e) = inl e
member-left p (x ∷ xs) ys (inr m) = inr (member-left p xs ys m)

member_right : (p : List ℕ) (xs ys : List (List ℕ)) → Member p ys → Member p (xs ++ ys)
member_right p [] ys m = m
member_right p (x ∷ xs) ys m = inr (member_right p xs ys m)

member-map :
    (r : ℕ) (p : List ℕ) (xs : List (List ℕ)) → Member p (map (λ q. r ∷ q) xs)
    → (q : List ℕ) × (p ≡ r ∷ q) × Member q xs
member-map r p [] m = absurd m
member-map r p (x ∷ xs) (inl e) = (x, e, inl refl)
member-map r p (x ∷ xs) (inr m) = let (q, e, n) = member-map r p xs m in (q, e, inr n)

map-member : (r : ℕ) (p : List ℕ) (xs : List (List ℕ)) → Member p xs → Member (r ∷ p) (map (λ q. r ∷ q) xs)
map-member r p [] m = absurd m
map-member r p (x ∷ xs) (inl e) = inl (ap (λ (q : List ℕ). r ∷ q) e)
map-member r p (x ∷ xs) (inr m) = inr (map-member r p xs m)

rising-append :
    (xs ys : List (List ℕ)) → Rising xs → Rising ys → ((p q : List ℕ) → Member p xs → Member q ys → Sooner p q)
    → Rising (xs ++ ys)
rising-append [] ys a b c = b
rising-append (x ∷ xs) ys a b c = (
  λ q m. elim (member-append q xs ys m) [ inl w ↦ a.0 q w | inr w ↦ c x q (inl refl) w ],
  rising-append xs ys a.1 b (λ p q v w. c p q (inr v) w),
)

sooner-cons : (r : ℕ) (p q : List ℕ) → Sooner p q → Sooner (r ∷ p) (r ∷ q)
sooner-cons r p q a = (inr (refl, a.0), λ e. a.1 (tail-eq_of_cons-eq e))

rising-map : (r : ℕ) (xs : List (List ℕ)) → Rising xs → Rising (map (λ q. r ∷ q) xs)
rising-map r [] a = tt
rising-map r (x ∷ xs) a = (
  λ q m. let (p, e, n) = member-map r q xs m in subst (Sooner (r ∷ x)) (sym e) (sooner-cons r x p (a.0 p n)),
  rising-map r xs a.1,
)

module _ (Y : System) (h : Y.State → Estimate) (T : ℕ) where
  -- p is visited, and no list of Q that meets a goal comes before it
  abbrev pub Due : List Y.State → Y.State → ℕ → (List ℕ → Type 0) → List ℕ → Type 0
  Due seen s g Q p =
      Q p × ((t : Y.State) × Visited Y h T seen s g p t) × ((q : List ℕ) → Q q → Hits Y h T seen s g q → Before p q)

  -- whether a list of Q meets a goal
  abbrev pub Ends : List Y.State → Y.State → ℕ → (List ℕ → Type 0) → Bool → Type 0
  Ends seen s g Q true = (p : List ℕ) × Q p × Hits Y h T seen s g p
  Ends seen s g Q false = (p : List ℕ) → Q p → Hits Y h T seen s g p → ⊥

  -- a log of just the lists of Q that are due, in order
  pub record Holds
      (seen : List Y.State) (s : Y.State) (g : ℕ) (Q : List ℕ → Type 0) (xs : List (List ℕ)) (b : Bool)
      : Type 0 where
    pub sound : (p : List ℕ) → Member p xs → Due seen s g Q p
    pub complete : (p : List ℕ) → Due seen s g Q p → Member p xs
    pub ends : Ends seen s g Q b
    pub rises : Rising xs

  unfoldable pub LogSays : List Y.State → Y.State → ℕ → (List ℕ → Type 0) → Log → Type 0
  LogSays seen s g Q (log xs b) = Holds seen s g Q xs b

  module _ (seen : List Y.State) (s : Y.State) (g i d : ℕ) where
    behind-holds :
        (t : Y.State) → offer Y h T seen s g i ≡ due t → (l : Log) → LogSays (t ∷ seen) t (g + Y.cost i) (Short d) l
        → LogSays seen s g (Only i d) (log_behind i l)
    unfolding LogSays log_behind
    behind-holds t e (log xs b) a =
        record { sound = sound; complete = complete; ends = ends b a.ends; rises = rising-map i xs a.rises }
      where
        up : (q : List ℕ) → Hits Y h T (t ∷ seen) t (g + Y.cost i) q → Hits Y h T seen s g (i ∷ q)
        up q x = (x.0, at-visited Y h T seen s g i (due t) e q x.0 x.1, x.2)

        down : (r : ℕ) (q : List ℕ) → r ≡ i → Hits Y h T seen s g (r ∷ q) → Hits Y h T (t ∷ seen) t (g + Y.cost i) q
        down r q f x = (x.0, visited-at Y h T seen s g i (due t) e r q x.0 f x.1, x.2)

        first :
            (p : List ℕ) → ((q : List ℕ) → length q ≤ d → Hits Y h T (t ∷ seen) t (g + Y.cost i) q → Before p q)
            → (q : List ℕ)
            → Only i d q → Hits Y h T seen s g q → Before (i ∷ p) q
        first p f [] w x = absurd w
        first p f (r ∷ q) w x = inr (sym w.0, f q w.1 (down r q w.0 x))

        sound : (p : List ℕ) → Member p (map (λ q. i ∷ q) xs) → Due seen s g (Only i d) p
        sound p m =
            let (q, f, n) = member-map i p xs m in
            let (x, (v, y), z) = a.sound q n in
            subst (Due seen s g (Only i d)) (sym f) (
              (refl, x),
              (v, at-visited Y h T seen s g i (due t) e q v y),
              first q z,
            )

        last : (r : ℕ) (p q : List ℕ) → r ≡ i → Before (r ∷ p) (i ∷ q) → Before p q
        last r p q f (inl l) = absurd (omega arith)
        last r p q f (inr l) = l.1

        complete : (p : List ℕ) → Due seen s g (Only i d) p → Member p (map (λ q. i ∷ q) xs)
        complete [] w = absurd w.0
        complete (r ∷ p) (w, (v, y), z) =
            subst (λ (j : ℕ). Member (j ∷ p) (map (λ q. i ∷ q) xs)) (sym w.0)
            (map-member i p xs
            (a.complete p (
              w.1,
              (v, visited-at Y h T seen s g i (due t) e r p v w.0 y),
              λ q l x. last r p q w.0 (z (i ∷ q) (refl, l) (up q x)),
            )))

        ends : (c : Bool) → Ends (t ∷ seen) t (g + Y.cost i) (Short d) c → Ends seen s g (Only i d) c
        ends true (p, l, x) = (i ∷ p, (refl, l), up p x)
        ends false n = none_of
          where
            none_of : (p : List ℕ) → Only i d p → Hits Y h T seen s g p → ⊥
            none_of [] w x = w
            none_of (r ∷ p) w x = n p w.1 (down r p w.0 x)

    nothing :
        (x : Offer Y.State) → offer Y h T seen s g i ≡ x → ((P : Y.State → Type 0) → OnDue x P → ⊥)
        → LogSays seen s g (Only i d) (log [] false)
    unfolding LogSays
    nothing x e n =
        record {
          sound = λ p m. absurd m;
          complete = λ p w. none-due Y h T seen s g i x e n d p w.1.0 w.0 w.1.1;
          ends = λ p w y. none-due Y h T seen s g i x e n d p y.0 w y.1;
          rises = tt;
        }

    take-holds :
        (x : Offer Y.State) → offer Y h T seen s g i ≡ x → (next : Y.State → Log)
        → ((t : Y.State) → LogSays (t ∷ seen) t (g + Y.cost i) (Short d) (next t))
        → LogSays seen s g (Only i d) (log_take x i next)
    unfolding log_take
    take-holds cut e next ih = nothing cut e (λ P w. w)
    take-holds (overshoot f) e next ih = nothing (overshoot f) e (λ P w. w)
    take-holds (due t) e next ih = behind-holds t e (next t) (ih t)

    after_holds :
        (k : ℕ) (xs : List (List ℕ)) (l : Log) → Holds seen s g (Only i d) xs false
        → LogSays seen s g (From (suc i) k d) l
        → LogSays seen s g (From i (suc k) d) (log_after xs l)
    unfolding LogSays
    after_holds k xs (log ys b) x y =
        record {
          sound = sound;
          complete = complete;
          ends = ends b y.ends;
          rises =
              rising-append xs ys x.rises y.rises
              (λ p q v w. only-sooner i k d p q (x.sound p v).0 (y.sound q w).0);
        }
      where
        sound : (p : List ℕ) → Member p (xs ++ ys) → Due seen s g (From i (suc k) d) p
        sound p m =
            elim (member-append p xs ys m) [
              | inl w ↦
                  (let z = x.sound p w in (
                    only-from i k d p z.0,
                    z.1,
                    λ q f v. elim (from-split i k d q f)
                        [ inl c ↦ absurd (x.ends q c v) | inr c ↦ (only-sooner i k d p q z.0 c).0 ],
                  ))
              | inr w ↦
                  (let z = y.sound p w in (
                    later-from i k d p z.0,
                    z.1,
                    λ q f v. elim (from-split i k d q f) [ inl c ↦ absurd (x.ends q c v) | inr c ↦ z.2 q c v ],
                  ))
            ]

        complete : (p : List ℕ) → Due seen s g (From i (suc k) d) p → Member p (xs ++ ys)
        complete p w =
            elim (from-split i k d p w.0) [
              | inl c ↦ member-left p xs ys (x.complete p (c, w.1, λ q f v. absurd (x.ends q f v)))
              | inr c ↦ member_right p xs ys (y.complete p (c, w.1, λ q f v. w.2 q (later-from i k d q f) v))
            ]

        ends : (c : Bool) → Ends seen s g (From (suc i) k d) c → Ends seen s g (From i (suc k) d) c
        ends true (p, f, v) = (p, later-from i k d p f, v)
        ends false n = λ p f v. elim (from-split i k d p f) [ inl c ↦ x.ends p c v | inr c ↦ n p c v ]

    then-holds :
        (k : ℕ) (l m : Log) → LogSays seen s g (Only i d) l → LogSays seen s g (From (suc i) k d) m
        → LogSays seen s g (From i (suc k) d) (log_then l m)
    unfolding LogSays log_then
    then-holds k (log xs false) m x y = after_holds k xs m x y
    then-holds k (log xs true) m x y =
        record {
          sound = λ p w. let z = x.sound p w in (
            only-from i k d p z.0,
            z.1,
            λ q f v. elim (from-split i k d q f) [ inl c ↦ z.2 q c v | inr c ↦ (only-sooner i k d p q z.0 c).0 ],
          );
          complete = λ p w.
              elim (from-split i k d p w.0) [
                | inl c ↦ x.complete p (c, w.1, λ q f v. w.2 q (only-from i k d q f) v)
                | inr c ↦
                    (let (q, f, v) = x.ends in
                    let z = only-sooner i k d q p f c in
                    absurd (z.1 (before-antisym q p z.0 (w.2 q (only-from i k d q f) v))))
              ];
          ends = let z = x.ends in (z.0, only-from i k d z.0 z.1, z.2);
          rises = x.rises;
        }

  no-lists :
      (seen : List Y.State) (s : Y.State) (g : ℕ) (Q : List ℕ → Type 0) → ((p : List ℕ) → Q p → ⊥)
      → LogSays seen s g Q (log [] false)
  unfolding LogSays
  no-lists seen s g Q n =
      record { sound = λ p m. absurd m; complete = λ p w. n p w.0; ends = λ p w v. n p w; rises = tt }

  extend-holds :
      (d : ℕ) (next : List Y.State → Y.State → ℕ → Log)
      → ((seen : List Y.State) (s : Y.State) (g : ℕ) → LogSays seen s g (Short d) (next seen s g))
      → (seen : List Y.State) (s : Y.State) (g k i : ℕ)
      → LogSays seen s g (From i k d) (log_extend Y h T next seen s g k i)
  unfolding log_extend
  extend-holds d next ih seen s g zero i = no-lists seen s g (From i zero d) (from-none i d)
  extend-holds d next ih seen s g (suc k) i =
      then-holds seen s g i d k _ _
      (take-holds seen s g i d (offer Y h T seen s g i) refl _ (λ t. ih (t ∷ seen) t (g + Y.cost i)))
      (extend-holds d next ih seen s g k (suc i))

  module _ {Legal : Y.State → Type 0} (L : Lawful Y Legal) where
    module _ (seen : List Y.State) (s : Y.State) (g : ℕ) where
      -- the list itself is visited first, and meets no goal; E holds its extensions among the lists of Q
      front-holds :
          (Q E : List ℕ → Type 0) → Q [] → (E [] → ⊥) → ((p : List ℕ) → E p → Q p)
          → ((r : ℕ) (p : List ℕ) (t : Y.State) → Q (r ∷ p) → Visited Y h T seen s g (r ∷ p) t → E (r ∷ p))
          → Y.goal s ≡ false
          → (l : Log) → LogSays seen s g E l → LogSays seen s g Q (log_after ([] ∷ []) l)
      unfolding LogSays
      front-holds Q E q0 e0 wide narrow e (log ys b) a =
          record { sound = sound; complete = complete; ends = ends b a.ends; rises = (sooner, a.rises) }
        where
          sooner : (q : List ℕ) → Member q ys → Sooner [] q
          sooner q m = (tt, λ f. e0 (subst E (sym f) (a.sound q m).0))

          in_e : (q : List ℕ) → Q q → Hits Y h T seen s g q → E q
          in_e [] w x = absurd (not-goal Y h T seen s g e x)
          in_e (r ∷ q) w x = narrow r q x.0 w x.1

          sound : (p : List ℕ) → Member p ([] ∷ ys) → Due seen s g Q p
          sound p (inl f) = subst (Due seen s g Q) (sym f) (q0, (s, refl), λ q w x. tt)
          sound p (inr m) = let z = a.sound p m in (wide p z.0, z.1, λ q w x. z.2 q (in_e q w x) x)

          complete : (p : List ℕ) → Due seen s g Q p → Member p ([] ∷ ys)
          complete [] w = inl refl
          complete (r ∷ p) w =
              inr (a.complete (r ∷ p) (narrow r p w.1.0 w.0 w.1.1, w.1, λ q f x. w.2 q (wide q f) x))

          ends : (c : Bool) → Ends seen s g E c → Ends seen s g Q c
          ends true (p, w, x) = (p, wide p w, x)
          ends false n = λ q w x. n q (in_e q w x) x

      goal-holds : (d : ℕ) → Y.goal s ≡ true → LogSays seen s g (Short d) (log ([] ∷ []) true)
      unfolding LogSays
      goal-holds d e =
          record {
            sound = sound;
            complete = complete;
            ends = ([], omega arith, (s, refl, e));
            rises = (λ q m. absurd m, tt);
          }
        where
          sound : (p : List ℕ) → Member p ([] ∷ []) → Due seen s g (Short d) p
          sound p (inl f) = subst (Due seen s g (Short d)) (sym f) (omega arith, (s, refl), λ q w x. tt)
          sound p (inr m) = absurd m

          complete : (p : List ℕ) → Due seen s g (Short d) p → Member p ([] ∷ [])
          complete [] w = inl refl
          complete (r ∷ p) w = absurd (w.2 [] (omega arith) (s, refl, e))

      arrive-holds :
          (d : ℕ) (b : Bool) → Y.goal s ≡ b → (m : Log)
          → (Y.goal s ≡ false → LogSays seen s g (Short d) (log_after ([] ∷ []) m))
          → LogSays seen s g (Short d) (log_arrive b m)
      unfolding log_arrive
      arrive-holds d true e m k = goal-holds d e
      arrive-holds d false e m k = k e

    visit-holds :
        (d : ℕ) (seen : List Y.State) (s : Y.State) (g : ℕ) → LogSays seen s g (Short d) (log_visit Y h T d seen s g)
    unfolding log_visit
    visit-holds zero seen s g =
        arrive-holds seen s g 0 (Y.goal s) refl _
        (λ e.
        front-holds seen s g (Short 0) (λ p. ⊥) (omega arith) (λ w. w) (λ p w. absurd w) (λ r p t w v. omega arith) e
        (log [] false)
        (no-lists seen s g (λ p. ⊥) (λ p w. w)))
    visit-holds (suc d) seen s g =
        arrive-holds seen s g (suc d) (Y.goal s) refl _
        (λ e.
        front-holds seen s g (Short (suc d)) (From 0 Y.rules d) (omega arith) (λ w. w) (from-short 0 Y.rules d)
        (λ r p t w v. (omega arith, omega (arith, due-rule Y h T L seen s g r _ v), omega arith)) e
        (log_extend Y h T (log_visit Y h T d) seen s g Y.rules 0)
        (extend-holds d (log_visit Y h T d) (λ ss t c. visit-holds d ss t c) seen s g Y.rules 0))

    -- the log of a round holds just the visited lists up to the first that meets a goal, in order
    pub log-says : (D : ℕ) (s : Y.State) → LogSays (s ∷ []) s 0 (Short D) (round_log Y h T D s)
    unfolding round_log
    log-says D s = visit-holds D (s ∷ []) s 0

    module _ (D : ℕ) (s : Y.State) (w : Within (h s) T) where
      logged-due : (p : List ℕ) → Logged Y h T D s p → Due (s ∷ []) s 0 (Short D) p
      logged-due p (o, i, f) =
          let (t, e) = o.applies in
          (o.short, (t, in-visited Y h T L D s p t o e i), first)
        where
          first : (q : List ℕ) → length q ≤ D → Hits Y h T (s ∷ []) s 0 q → Before p q
          first q l (t, v, g) =
              let (x, y) = visited-in Y h T L D s q t w l v in
              let tr = visited-trail Y h T L (s ∷ []) s 0 q t v in
              f q x y (record { final = t; runs = trail-run Y (s ∷ []) s q t tr; meets = g })

      due-logged : (p : List ℕ) → Due (s ∷ []) s 0 (Short D) p → Logged Y h T D s p
      due-logged p (l, (t, v), f) =
          let (x, y) = visited-in Y h T L D s p t w l v in (
            x,
            y,
            λ q o i r. f q o.short (r.final, in-visited Y h T L D s q r.final o r.runs i, r.meets),
          )

      -- the same by the definitions alone
      pub log-exactly :
          (xs : List (List ℕ)) (b : Bool) → round_log Y h T D s ≡ log xs b
          → ((p : List ℕ) → Member p xs ↔ Logged Y h T D s p) × Rising xs
      unfolding LogSays
      log-exactly xs b e =
          let a : Holds (s ∷ []) s 0 (Short D) xs b = subst (LogSays (s ∷ []) s 0 (Short D)) e (log-says D s) in (
            λ p. (λ m. due-logged p (a.sound p m), λ x. a.complete p (logged-due p x)),
            a.rises,
          )

-- so it is in every round that the search comes to
pub log-at-round :
    (Y : System) (h : Y.State → Estimate) {Legal : Y.State → Type 0} (L : Lawful Y Legal) (D B : ℕ) (s : Y.State)
    (A : Allowance) (T u : ℕ) → RoundAt Y h D B s A T u → (xs : List (List ℕ)) (b : Bool)
    → round_log Y h T D s ≡ log xs b
    → ((p : List ℕ) → Member p xs ↔ Logged Y h T D s p) × Rising xs
log-at-round Y h L D B s A T u a = log-exactly Y h T L D s (start-within Y h L D B s A T u a)
