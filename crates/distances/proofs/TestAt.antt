-- The lower-bound test at one state, by the least cost by one rule. In the order of the code: a goal's entry is not 0
-- (`test-goal`), no rule leads to an entry that is not the mark (`test-none`), the entry is not the mark and is
-- compared (`test-leb`), the entry is the mark (`test-marked`). The code of the test rests on these.
use mathlib.Core.Path.{◌≡◌, refl}
use mathlib.Core.Logic.{◌≢◌}
use mathlib.Core.Bool.{Bool, true, false}
use mathlib.Core.List.{List}
use Prim.Native.Nat.{ℕ, ◌+◌, ◌≤◌, ◌<◌}
use native.Mathlib.Omega.{arith}
use lib.Dec.{leb}
use lib.ListN.{get_or}
use borrow.Author.Tests.{leb-true, leb-false}
use Rattle.basics.specs.Marks.{mark}
use Rattle.basics.proofs.Truth.{not_so}
use Rattle.distances.specs.Graphs.{Graph}
use Rattle.distances.specs.LowerBounds.{passes_at}
use Rattle.distances.specs.Filling.{Cheap, none, Best}
use Rattle.distances.proofs.Passing.{ZeroAtGoal, at_goal, at-rule, at-intro}
use Rattle.distances.proofs.OneRule.{via-at, via-found}

pub test-goal : (g : Graph) (t : List ℕ) (u : ℕ) → g.goal u ≡ true → get_or t u 0 ≢ 0 → passes_at g t u ≡ false
test-goal g t u e z = not_so (passes_at g t u) (λ p. z (at_goal g t u p e))

-- the entries are numbers of 32 bits
module _
    (g : Graph) (t : List ℕ) (u x : ℕ) (entries : (v : ℕ) → get_or t v 0 ≤ mark) (cheap : Cheap g)
    (b : Best g t u x) where
  -- x is at most the cost by a rule that leads to an entry that is not the mark, and below `none`
  under :
      (r : ℕ) → r < g.rules → g.step u r < g.states → get_or t (g.step u r) 0 ≢ mark
      → (x ≤ g.cost r + get_or t (g.step u r) 0) × (x < none)
  under r i v m =
      let n = entries (g.step u r) in
      let q = via-at g t u r (g.step u r) refl v (omega arith) in
      let l = b.least r i in
      let c = cheap r i in
      omega arith

  -- an entry that passes is not the mark and at most x
  over : x < none → passes_at g t u ≡ true → (get_or t u 0 ≢ mark) × (get_or t u 0 ≤ x)
  over l p =
      let (r, i, e) = b.found l in
      let (v, m) = via-found g t u r (omega arith) in
      let q = via-at g t u r (g.step u r) refl v m in
      let (a, c) = at-rule g t u p r i v (omega arith) in
      (a, omega arith)

  pub test-none : ZeroAtGoal g t u → none ≤ x → passes_at g t u ≡ true
  test-none z n = at-intro g t u z (λ r i v m. let k = (under r i v m).1 in absurd (omega arith))

  pub test-leb : ZeroAtGoal g t u → get_or t u 0 < mark → passes_at g t u ≡ leb (get_or t u 0) x
  test-leb z m = go (leb (get_or t u 0) x) refl
    where
      go : (y : Bool) → leb (get_or t u 0) x ≡ y → passes_at g t u ≡ y
      go true e =
          let l = leb-true (get_or t u 0) x e in
          at-intro g t u z (λ r i v n. let k = (under r i v n).0 in (omega arith, omega arith))
      go false e =
          let l = leb-false (get_or t u 0) x e in
          not_so (passes_at g t u) (λ p. let k = (over (omega arith) p).1 in omega arith)

  pub test-marked : mark ≤ get_or t u 0 → x < none → passes_at g t u ≡ false
  test-marked m l =
      let n = entries u in
      not_so (passes_at g t u) (λ p. (over l p).0 (omega arith))
