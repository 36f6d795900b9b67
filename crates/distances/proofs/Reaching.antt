-- A list that reaches a goal, its first rule apart, both ways (`reaches-cons`, `reaches-intro`).
-- All that is shown of lists of rules rests on these.
use mathlib.Core.Path.{◌≡◌}
use mathlib.Core.Bool.{true, ◌&&◌}
use mathlib.Core.List.{List, ◌∷◌}
use Prim.Native.Nat.{ℕ, ◌<◌}
use lib.Dec.{ltb}
use borrow.Author.Tests.{ltb-true, lt-ltb}
use Rattle.basics.proofs.Truth.{and-true}
use Rattle.distances.specs.Graphs.{Graph, leads_on, reaches}

module _ (g : Graph) (u r : ℕ) (rs : List ℕ) where
  pub reaches-cons :
      reaches g u (r ∷ rs) ≡ true → (r < g.rules) × (g.step u r < g.states) × (reaches g (g.step u r) rs ≡ true)
  reaches-cons h =
      let (i, k) = and-true (ltb r g.rules) (leads_on g u r && reaches g (g.step u r) rs) h in
      let (v, w) = and-true (leads_on g u r) (reaches g (g.step u r) rs) k in
      (ltb-true _ _ i, ltb-true _ _ v, w)

  pub reaches-intro :
      r < g.rules → g.step u r < g.states → reaches g (g.step u r) rs ≡ true → reaches g u (r ∷ rs) ≡ true
  reaches-intro i v w = rw (lt-ltb r g.rules i, lt-ltb (g.step u r) g.states v) w
