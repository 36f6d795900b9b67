-- A good table that passes the lower-bound test is exact (`exact`, by `exact-entries`), and an exact table passes
-- (`least-passes`). The least cost is one number (`least-one`) and the exact table one list (`table-one`). That the
-- fill ends right rests on these.
use mathlib.Core.Path.{◌≡◌, sym, ◌∙◌}
use mathlib.Core.Logic.{◌⊎◌, inl, inr, ◌≢◌}
use mathlib.Core.Bool.{true}
use mathlib.Core.List.{List, [], ◌∷◌}
use Prim.Native.Nat.{ℕ, ◌+◌, ◌≤◌, ◌<◌}
use native.Mathlib.Omega.{arith}
use lib.ListN.{length, get_or}
use lib.Seq.{ext_get_or}
use Rattle.basics.specs.Marks.{mark}
use Rattle.basics.proofs.Comparing.{same?}
use Rattle.distances.specs.Graphs.{Graph, Achieved, Least, LeastTable}
use Rattle.distances.specs.LowerBounds.{passes}
use Rattle.distances.specs.Filling.{Good}
use Rattle.distances.proofs.Reaching.{reaches-intro}
use Rattle.distances.proofs.Passing.{ZeroAtGoal, passes-intro, passing-bound}

-- a table that passes, where each entry that is not the mark is below it and achieved
pub exact-entries :
    (g : Graph) (t : List ℕ) → length t ≡ g.states → passes g t ≡ true
    → ((u : ℕ) → u < g.states → get_or t u 0 ≢ mark → (get_or t u 0 < mark) × Achieved g u (get_or t u 0))
    → LeastTable g t
exact-entries g t len p a = record { len = len; least = λ u l. at u l (same? (get_or t u 0) mark) }
  where
    at : (u : ℕ) → u < g.states → (get_or t u 0 ≡ mark) ⊎ (get_or t u 0 ≢ mark) → Least g u (get_or t u 0)
    at u l (inl e) = inl (e, λ rs w. (passing-bound g t p rs u l w).0 e)
    at u l (inr n) = let (m, b) = a u l n in inr (m, b, λ rs w. (passing-bound g t p rs u l w).1)

-- the entries are numbers of 32 bits
pub exact : (g : Graph) (t : List ℕ) → Good g t → passes g t ≡ true → ((u : ℕ) → get_or t u 0 ≤ mark) → LeastTable g t
exact g t k p entries =
    exact-entries g t k.len p (λ u l n.
    let m : get_or t u 0 < mark = omega (arith, entries u) in
    (m, k.achieved u l m))

pub least-one : (g : Graph) (u a b : ℕ) → Least g u a → Least g u b → a ≡ b
least-one g u a b (inl x) (inl y) = x.0 ∙ sym y.0
least-one g u a b (inl x) (inr y) = absurd (x.1 y.1.0 y.1.1)
least-one g u a b (inr x) (inl y) = absurd (y.1 x.1.0 x.1.1)
least-one g u a b (inr x) (inr y) =
    let p = x.2 y.1.0 y.1.1 in
    let q = y.2 x.1.0 x.1.1 in
    omega (arith, x.1.2, y.1.2)

pub table-one : (g : Graph) (s t : List ℕ) → LeastTable g s → LeastTable g t → s ≡ t
table-one g s t a b =
    ext_get_or 0 s t (a.len ∙ sym b.len) (λ u h.
    let l = a.len in
    let i : u < g.states = omega arith in
    least-one g u (get_or s u 0) (get_or t u 0) (a.least u i) (b.least u i))

pub least-passes : (g : Graph) (t : List ℕ) → LeastTable g t → passes g t ≡ true
least-passes g t a =
    passes-intro g t (λ u l. goal u (a.least u l))
    (λ u r l i v m. rule u r i v m (a.least u l) (a.least (g.step u r) v))
  where
    goal : (u : ℕ) → Least g u (get_or t u 0) → ZeroAtGoal g t u
    goal u (inl x) e = absurd (x.1 [] e)
    goal u (inr x) e = let l = x.2 [] e in omega arith

    rule :
        (u r : ℕ) → r < g.rules → g.step u r < g.states → get_or t (g.step u r) 0 ≢ mark
        → Least g u (get_or t u 0) → Least g (g.step u r) (get_or t (g.step u r) 0)
        → (get_or t u 0 ≢ mark) × (get_or t u 0 ≤ g.cost r + get_or t (g.step u r) 0)
    rule u r i v m x (inl y) = absurd (m y.0)
    rule u r i v m (inl x) (inr y) = absurd (x.1 (r ∷ y.1.0) (reaches-intro g u r y.1.0 i v y.1.1))
    rule u r i v m (inr x) (inr y) =
        let l = x.2 (r ∷ y.1.0) (reaches-intro g u r y.1.0 i v y.1.1) in
        let n = x.0 in
        let e = y.1.2 in
        (omega arith, omega arith)
