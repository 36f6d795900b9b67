-- A table that the computed test `certifies` accepts is exact (`certified`): each
-- entry that is not the mark is achieved, by the rules that meet the entries,
-- since the entries fall along them. Fixed tables are shown exact with it.
use mathlib.Core.Path.{◌≡◌, refl, sym}
use mathlib.Core.Logic.{◌≢◌}
use mathlib.Core.Bool.{Bool, true, false, ◌&&◌, ◌||◌}
use mathlib.Core.List.{List, [], ◌∷◌}
use Prim.Native.Nat.{ℕ, zero, suc, ◌+◌, ◌<◌}
use native.Mathlib.Omega.{arith}
use lib.Dec.{ltb, eqb}
use lib.ListN.{length, get_or}
use borrow.Author.Tests.{ltb-true, eqb-true, ne_eqb}
use Rattle.basics.specs.Bounded.{all, some, first}
use Rattle.basics.specs.Marks.{mark}
use Rattle.basics.proofs.Truth.{and-true}
use Rattle.basics.proofs.Bounded.{all-at, first_holds}
use Rattle.distances.specs.Graphs.{Graph, leads_on, Achieved, LeastTable}
use Rattle.distances.specs.LowerBounds.{passes}
use Rattle.distances.specs.Certificates.{met_by, met, certifies}
use Rattle.distances.proofs.Reaching.{reaches-intro}
use Rattle.distances.proofs.Passing.{passes-goal}
use Rattle.distances.proofs.Exactness.{exact-entries}

module _ (g : Graph) (t : List ℕ) where
  met-rule :
      (u r : ℕ) → met_by g t u r ≡ true
      → (0 < g.cost r) × (g.step u r < g.states) × (get_or t u 0 ≡ g.cost r + get_or t (g.step u r) 0)
  met-rule u r h =
      let e = eqb (get_or t u 0) (g.cost r + get_or t (g.step u r) 0) in
      let (c, k) = and-true (ltb 0 (g.cost r)) (leads_on g u r && e) h in
      let (v, q) = and-true (leads_on g u r) e k in
      (ltb-true 0 (g.cost r) c, ltb-true (g.step u r) g.states v, eqb-true _ _ q)

  module _ (ok : certifies g t ≡ true) where
    parts : (length t ≡ g.states) × (passes g t ≡ true) × ((u : ℕ) → u < g.states → met g t u ≡ true)
    unfolding certifies
    parts =
        let (l, k) = and-true (eqb (length t) g.states) (passes g t && all g.states (met g t)) ok in
        let (p, m) = and-true (passes g t) (all g.states (met g t)) k in
        (eqb-true (length t) g.states l, p, all-at (met g t) g.states m)

    met_at :
        (u : ℕ) → u < g.states → get_or t u 0 ≢ mark
        → (get_or t u 0 < mark) × ((g.goal u || some g.rules (met_by g t u)) ≡ true)
    met_at u l n =
        let (m, h) = and-true (ltb (get_or t u 0) mark) _ (rw (ne_eqb (get_or t u 0) mark n) at (parts.2 u l)) in
        (ltb-true (get_or t u 0) mark m, h)

    -- by the entry: it falls along the rules
    achieved : (k u : ℕ) → u < g.states → get_or t u 0 < k → get_or t u 0 ≢ mark → Achieved g u (get_or t u 0)
    achieved zero u l h n = absurd (omega arith)
    achieved (suc k) u l h n = go (achieved k) (g.goal u) refl (met_at u l n).1
      where
        go :
            ((v : ℕ) → v < g.states → get_or t v 0 < k → get_or t v 0 ≢ mark → Achieved g v (get_or t v 0))
            → (x : Bool) → g.goal u ≡ x → (x || some g.rules (met_by g t u)) ≡ true → Achieved g u (get_or t u 0)
        go ih true e s = ([], e, sym (passes-goal g t parts.1 u l e))
        go ih false e s =
            let m = (met_at u l n).0 in
            let r = first g.rules (met_by g t u) in
            let (i, b) = first_holds (met_by g t u) g.rules s in
            let (c, v, q) = met-rule u r b in
            let (rs, w, d) = ih (g.step u r) v (omega arith) (omega arith) in
            (r ∷ rs, reaches-intro g u r rs i v w, omega arith)

    pub certified : LeastTable g t
    certified =
        exact-entries g t parts.0 parts.1
        (λ u l n. ((met_at u l n).0, achieved (suc (get_or t u 0)) u l (omega arith) n))
