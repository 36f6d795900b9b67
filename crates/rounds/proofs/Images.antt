-- Two systems whose states correspond, rule by rule, with estimates that agree (`Image`), have the same search:
-- `search-image`. An answer holds rule numbers and figures only, so that it is the same outright; the states seen
-- correspond one by one. That a search on other forms of the states is the search on the states themselves rests on it.
use mathlib.Core.Path.{◌≡◌, refl, ap, ap₂, ◌∙◌, fun_ext}
use mathlib.Core.Bool.{Bool, true, false, ◌||◌}
use mathlib.Core.Option
use mathlib.Core.Option.{Option, none, some}
use mathlib.Core.List.{List, [], ◌∷◌, map}
use Prim.Native.Nat.{ℕ, zero, suc, ◌+◌, ◌≤◌, ◌<◌}
use native.Mathlib.Omega.{arith}
use lib.Dec.{leb}
use Rattle.rounds.specs.Systems.{System, Estimate, mark, at, plus}
use Rattle.rounds.specs.Rounds.{Allowance, allows, Progress, on, judge, weigh, and_then, behind, take_up, conclude}
use Rattle.rounds.specs.Rounds.{capped, begin, arrive, occurs, Visitor, offered, offer, extend, visit, round}
use Rattle.rounds.specs.Rounds.{rounds, rounds_from, search}

-- φ takes the system Y to Z, state by state, over the good states of Y; the estimates h and k agree
pub record Image
    (Y Z : System) (Legal : Y.State → Type 0) (φ : Y.State → Z.State) (h : Y.State → Estimate)
    (k : Z.State → Estimate)
    : Type 0 where
  pub rules : Y.rules ≡ Z.rules
  pub cost : (r : ℕ) → r < Y.rules → Y.cost r ≡ Z.cost r
  pub step : (r : ℕ) (s : Y.State) → r < Y.rules → Legal s → Option.map φ (Y.step r s) ≡ Z.step r (φ s)
  pub stays : (r : ℕ) (s t : Y.State) → r < Y.rules → Legal s → Y.step r s ≡ some t → Legal t
  pub goal : (s : Y.State) → Legal s → Y.goal s ≡ Z.goal (φ s)
  pub same : (s t : Y.State) → Legal s → Legal t → Y.same s t ≡ Z.same (φ s) (φ t)
  pub estimate : (s : Y.State) → Legal s → h s ≡ k (φ s)

-- all of a list are good
abbrev AllLegal : {A : Type 0} → (A → Type 0) → List A → Type 0
AllLegal G [] = Unit {0}
AllLegal G (x ∷ xs) = G x × AllLegal G xs

-- offers of two states that agree in all but the states
module _
    {S R : Type 0} (T : ℕ) (t : S) (x : R) (i : ℕ) (next : S → ℕ → Estimate → Progress)
    (other : R → ℕ → Estimate → Progress) (u : ℕ) (o : Estimate) (e : next t u o ≡ other x u o) where
  judge-image : (b : Bool) (f : ℕ) → take_up (judge b t f) i next u o ≡ take_up (judge b x f) i other u o
  unfolding take_up
  judge-image true f = ap (behind i) e
  judge-image false f = refl

  weigh-image :
      (b : Bool) (g : ℕ) (y : Estimate)
      → take_up (weigh b T t (plus g y)) i next u o ≡ take_up (weigh b T x (plus g y)) i other u o
  unfolding take_up
  weigh-image true g y = refl
  weigh-image false g mark = refl
  weigh-image false g (at n) = judge-image (leb (g + n) T) (g + n)

module _
    {Y Z : System} {Legal : Y.State → Type 0} {φ : Y.State → Z.State} {h : Y.State → Estimate}
    {k : Z.State → Estimate} (I : Image Y Z Legal φ h k) where
  occurs-image :
      (x : Y.State) (ys : List Y.State) → Legal x → AllLegal Legal ys → occurs Y x ys ≡ occurs Z (φ x) (map φ ys)
  occurs-image x [] g a = refl
  occurs-image x (y ∷ ys) g a = ap₂ ◌||◌ (I.same x y g a.0) (occurs-image x ys g a.1)

  module _ (A : Allowance) (T : ℕ) where
    -- visits of corresponding lists leave the same
    Agree : Visitor Y.State → Visitor Z.State → Type 0
    Agree next other =
        (seen : List Y.State) (s : Y.State) → AllLegal Legal seen → Legal s → (g u : ℕ) (o : Estimate)
        → next seen s g u o ≡ other (map φ seen) (φ s) g u o

    module _
        (next : Visitor Y.State) (other : Visitor Z.State) (agree : Agree next other) (seen : List Y.State)
        (s : Y.State) (a : AllLegal Legal seen) (good : Legal s) (g : ℕ) where
      -- an offer, taken up
      abbrev upon : ℕ → ℕ → ℕ → Estimate → Option Z.State → Progress
      upon i c u o x = take_up (offered Z k T (map φ seen) c x) i (λ t. other (t ∷ map φ seen) t c) u o

      taken-image :
          (i : ℕ) → i < Y.rules → (c u : ℕ) (o : Estimate) (x : Option Y.State) → Y.step i s ≡ x
          → take_up (offered Y h T seen c x) i (λ t. next (t ∷ seen) t c) u o ≡ upon i c u o (Option.map φ x)
      unfolding take_up Agree
      taken-image i l c u o none e = refl
      taken-image i l c u o (some t) e =
          let w : Legal t = I.stays i s t l good e in
          weigh-image T t (φ t) i (λ t. next (t ∷ seen) t c) (λ t. other (t ∷ map φ seen) t c) u o
          (agree (t ∷ seen) t (w, a) w c u o) (occurs Y t seen) c (h t)
          ∙ ap₂ (λ (b : Bool) (y : Estimate).
          take_up (weigh b T (φ t) (plus c y)) i (λ t. other (t ∷ map φ seen) t c) u o)
          (occurs-image t seen w a) (I.estimate t w)

      offer-image :
          (i : ℕ) → i < Y.rules → (u : ℕ) (o : Estimate)
          → take_up (offer Y h T seen s g i) i (λ t. next (t ∷ seen) t (g + Y.cost i)) u o
          ≡ take_up (offer Z k T (map φ seen) (φ s) g i) i (λ t. other (t ∷ map φ seen) t (g + Z.cost i)) u o
      unfolding offer
      offer-image i l u o =
          taken-image i l (g + Y.cost i) u o (Y.step i s) refl
          ∙ ap₂ (λ (n : ℕ) (x : Option Z.State). upon i (g + n) u o x) (I.cost i l) (I.step i s l good)

      extend-image :
          (n i : ℕ) → i + n ≤ Y.rules → (u : ℕ) (o : Estimate)
          → extend Y h T next seen s g n i u o ≡ extend Z k T other (map φ seen) (φ s) g n i u o
      unfolding extend
      extend-image zero i l u o = refl
      extend-image (suc n) i l u o =
          ap₂ and_then (offer-image i (omega arith) u o)
          (fun_ext (λ w. fun_ext (λ q. extend-image n (suc i) (omega arith) w q)))

    visit-image : (d : ℕ) → Agree (visit Y h A T d) (visit Z k A T d)
    unfolding visit Agree
    visit-image zero seen s a good g u o = ap (λ (b : Bool). arrive (allows A u) b g u o on) (I.goal s good)
    visit-image (suc d) seen s a good g u o =
        ap₂ (λ (b : Bool) (m : ℕ → Estimate → Progress). arrive (allows A u) b g u o m) (I.goal s good)
        (fun_ext (λ w. fun_ext (λ q.
        extend-image (visit Y h A T d) (visit Z k A T d) (visit-image d) seen s a good g Y.rules 0 (omega arith) w q
        ∙ ap (λ (n : ℕ). extend Z k T (visit Z k A T d) (map φ seen) (φ s) g n 0 w q) I.rules)))

  module _ (A : Allowance) (D B : ℕ) (s : Y.State) (good : Legal s) where
    round-image : (T u : ℕ) → round Y h A D s T u ≡ round Z k A D (φ s) T u
    unfolding round Agree
    round-image T u = visit-image A T D (s ∷ []) s (good, tt) good 0 u mark

    rounds-image : (n T u : ℕ) → rounds Y h A D B s n T u ≡ rounds Z k A D B (φ s) n T u
    unfolding rounds
    rounds-image zero T u = refl
    rounds-image (suc n) T u =
        ap (capped (leb T B) u)
        (fun_ext (λ w. ap₂ conclude (round-image T w) (fun_ext (λ t. fun_ext (λ v. rounds-image n t v)))))

    pub search-image : search Y h A D B s ≡ search Z k A D B (φ s)
    unfolding search rounds_from
    search-image = ap₂ begin (I.estimate s good) (fun_ext (λ T. rounds-image (suc B) T 0))
