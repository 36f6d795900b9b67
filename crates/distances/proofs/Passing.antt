-- The lower-bound test as two propositions, at one state (`at_goal`, `at-rule`, `at-intro`) and at all (`passes-goal`,
-- `passes-rule`, `passes-intro`, `passes_at_lem`). A table that passes is at most the cost of every list that reaches a
-- goal (`passing-bound`), a table with the same entries passes too (`passes_same`), and zeros pass (`zeros_pass`).
-- Exactness, the certificate, the sweeps of the fill, the test at one state and what a passing table promises rest on
-- these.
use mathlib.Core.Path.{◌≡◌, refl, ap, ◌∙◌}
use mathlib.Core.Logic.{◌≢◌}
use mathlib.Core.Bool.{Bool, true, false, not, ◌&&◌, ◌||◌}
use mathlib.Core.List.{List, [], ◌∷◌}
use Prim.Native.Nat.{ℕ, ◌+◌, ◌≤◌, ◌<◌}
use native.Mathlib.Omega.{arith}
use lib.Dec.{eqb, leb}
use lib.ListN.{get_or}
use borrow.Author.Tests.{lt-ltb, ltb-true, eqb-true, eqb-false, eq-eqb, ne_eqb, leb-true, le-leb, not-true}
use Rattle.basics.specs.Bounded.{all}
use Rattle.basics.specs.Marks.{mark}
use Rattle.basics.proofs.Truth.{and-true, and_intro}
use Rattle.basics.proofs.Bounded.{all-at, all-intro}
use Rattle.distances.specs.Graphs.{Graph, leads_on, reaches, total_cost}
use Rattle.distances.specs.LowerBounds.{zero_at_goal, bounded_by, passes_at, passes}
use Rattle.distances.proofs.Reaching.{reaches-cons}

-- condition (i) at the state u
abbrev pub ZeroAtGoal : Graph → List ℕ → ℕ → Type 0
ZeroAtGoal g t u = g.goal u ≡ true → get_or t u 0 ≡ 0

-- condition (ii) at the state u for rule r
abbrev pub BoundedBy : Graph → List ℕ → ℕ → ℕ → Type 0
BoundedBy g t u r =
    g.step u r < g.states → get_or t (g.step u r) 0 ≢ mark
    → (get_or t u 0 ≢ mark) × (get_or t u 0 ≤ g.cost r + get_or t (g.step u r) 0)

module _ (g : Graph) (t : List ℕ) where
  -- at one state
  module _ (u : ℕ) where
    parts : passes_at g t u ≡ true → (zero_at_goal g t u ≡ true) × (all g.rules (bounded_by g t u) ≡ true)
    unfolding passes_at
    parts h = and-true (zero_at_goal g t u) (all g.rules (bounded_by g t u)) h

    pub at_goal : passes_at g t u ≡ true → ZeroAtGoal g t u
    at_goal h e = eqb-true (get_or t u 0) 0 (rw e at (parts h).0)

    pub at-rule : passes_at g t u ≡ true → (r : ℕ) → r < g.rules → BoundedBy g t u r
    at-rule h r i v m =
        let b = all-at (bounded_by g t u) g.rules (parts h).1 r i in
        let c : (not (eqb (get_or t u 0) mark) && leb (get_or t u 0) (g.cost r + get_or t (g.step u r) 0)) ≡ true =
        rw (lt-ltb (g.step u r) g.states v, ne_eqb (get_or t (g.step u r) 0) mark m) at b in
        let d = and-true (not (eqb (get_or t u 0) mark)) (leb (get_or t u 0) (g.cost r + get_or t (g.step u r) 0)) c in
        (eqb-false _ _ (not-true _ d.0), leb-true _ _ d.1)

    pub at-intro : ZeroAtGoal g t u → ((r : ℕ) → r < g.rules → BoundedBy g t u r) → passes_at g t u ≡ true
    unfolding passes_at
    at-intro z b =
        and_intro (zero_at_goal g t u) (all g.rules (bounded_by g t u)) (zero (g.goal u) refl)
        (all-intro (bounded_by g t u) g.rules
        (λ r i. rule r i (leads_on g u r) refl (eqb (get_or t (g.step u r) 0) mark) refl))
      where
        zero : (x : Bool) → g.goal u ≡ x → (not x || eqb (get_or t u 0) 0) ≡ true
        zero true e = eq-eqb (get_or t u 0) 0 (z e)
        zero false e = refl

        rule :
            (r : ℕ) → r < g.rules → (x : Bool) → leads_on g u r ≡ x → (y : Bool) → eqb (get_or t (g.step u r) 0) mark
            ≡ y
            → (not x || (y || not (eqb (get_or t u 0) mark) && leb (get_or t u 0) (g.cost r + get_or t (g.step u r) 0)))
            ≡ true
        rule r i false d y e = refl
        rule r i true d true e = refl
        rule r i true d false e =
            let k = b r i (ltb-true (g.step u r) g.states d) (eqb-false (get_or t (g.step u r) 0) mark e) in
            and_intro (not (eqb (get_or t u 0) mark)) _ (ap not (ne_eqb (get_or t u 0) mark k.0)) (le-leb _ _ k.1)

  -- at all states
  pub passes_at_lem : passes g t ≡ true → (u : ℕ) → u < g.states → passes_at g t u ≡ true
  unfolding passes
  passes_at_lem h u l = all-at (passes_at g t) g.states h u l

  pub passes-goal : passes g t ≡ true → (u : ℕ) → u < g.states → ZeroAtGoal g t u
  passes-goal h u l = at_goal u (passes_at_lem h u l)

  pub passes-rule : passes g t ≡ true → (u r : ℕ) → u < g.states → r < g.rules → BoundedBy g t u r
  passes-rule h u r l i = at-rule u (passes_at_lem h u l) r i

  pub passes-intro :
      ((u : ℕ) → u < g.states → ZeroAtGoal g t u)
      → ((u r : ℕ) → u < g.states → r < g.rules → BoundedBy g t u r)
      → passes g t ≡ true
  unfolding passes
  passes-intro z b = all-intro (passes_at g t) g.states (λ u l. at-intro u (z u l) (λ r i. b u r l i))

  -- the lower bound
  pub passing-bound :
      passes g t ≡ true → (rs : List ℕ) (u : ℕ) → u < g.states → reaches g u rs ≡ true
      → (get_or t u 0 ≢ mark) × (get_or t u 0 ≤ total_cost g rs)
  passing-bound h [] u l w =
      let z = passes-goal h u l w in
      omega arith
  passing-bound h (r ∷ rs) u l w =
      let (i, v, w') = reaches-cons g u r rs w in
      let (m, b) = passing-bound h rs (g.step u r) v w' in
      let (m', b') = passes-rule h u r l i v m in
      (m', omega arith)

  pub zeros_pass : ((u : ℕ) → u < g.states → get_or t u 0 ≡ 0) → passes g t ≡ true
  zeros_pass z =
      passes-intro (λ u l e. z u l) (λ u r l i v m. let a = z u l in omega arith)

-- only the entries of the states count
pub passes_same :
    (g : Graph) (t t' : List ℕ) → ((k : ℕ) → k < g.states → get_or t' k 0 ≡ get_or t k 0)
    → passes g t ≡ true → passes g t' ≡ true
passes_same g t t' same h =
    passes-intro g t' (λ u l goal. same u l ∙ passes-goal g t h u l goal) (λ u r l i there unmarked.
    rw (same u l, same (g.step u r) there)
    (passes-rule g t h u r l i there (rw (same (g.step u r) there) at unmarked)))
