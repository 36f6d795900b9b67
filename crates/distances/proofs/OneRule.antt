-- Costs by one rule: the cost by cases (`via-at`, `via-marked`, `via-none`, `via-found`), and the least of them for the
-- first k rules (`BestBelow`), rule by rule (`best_none`, `best-lower`, `best-keep`, `best-all`). The sweeps of the
-- fill, the test at one state (`TestAt`), and the code that finds these costs (`via` and `best` of the crate tables,
-- with its `RuleCosts`) rest on these.
use mathlib.Core.Path.{◌≡◌, refl, sym}
use mathlib.Core.Logic.{⊎_elim}
use mathlib.Core.List.{List}
use Prim.Native.Nat.{ℕ, ◌+◌, ◌≤◌, ◌<◌}
use native.Mathlib.Omega.{arith}
use lib.ListN.{get_or}
use borrow.Author.Tests.{lt-ltb, le-ltb}
use borrow.Author.Count.{below_more}
use Rattle.basics.specs.Marks.{mark}
use Rattle.basics.proofs.Comparing.{below?}
use Rattle.distances.specs.Graphs.{Graph}
use Rattle.distances.specs.Filling.{none, via, Best}

-- the cost by one rule that takes u to v
module _ (g : Graph) (t : List ℕ) (u r v : ℕ) (e : v ≡ g.step u r) where
  pub via-at : v < g.states → get_or t v 0 < mark → via g t u r ≡ get_or t v 0 + g.cost r
  unfolding via
  via-at hv hm = rw (← e) (rw (lt-ltb v g.states hv, lt-ltb (get_or t v 0) mark hm))

  pub via-marked : v < g.states → mark ≤ get_or t v 0 → via g t u r ≡ none
  unfolding via
  via-marked hv hm = rw (← e) (rw (lt-ltb v g.states hv, le-ltb (get_or t v 0) mark hm))

  pub via-none : g.states ≤ v → via g t u r ≡ none
  unfolding via
  via-none hv = rw (← e) (rw (le-ltb v g.states hv))

-- a cost below `none` is by a rule that applies and leads to an entry that is not the mark
pub via-found :
    (g : Graph) (t : List ℕ) (u r : ℕ) → via g t u r < none
    → (g.step u r < g.states) × (get_or t (g.step u r) 0 < mark)
via-found g t u r h =
    let v = g.step u r in
    ⊎_elim
    (λ hv.
    ⊎_elim (λ hm. (hv, hm))
    (λ hm. let q = via-marked g t u r v refl hv hm in absurd (omega arith))
    (below? (get_or t v 0) mark))
    (λ hv. let q = via-none g t u r v refl hv in absurd (omega arith))
    (below? v g.states)

-- `Best` for the rules below k
pub record BestBelow (g : Graph) (t : List ℕ) (u k x : ℕ) : Type 0 where
  pub least : (r : ℕ) → r < k → x ≤ via g t u r
  pub found : x < none → (r : ℕ) × (r < k) × (via g t u r ≡ x)

module _ (g : Graph) (t : List ℕ) (u : ℕ) where
  pub best_none : BestBelow g t u 0 none
  best_none = record { least = λ r h. absurd (omega arith); found = λ h. absurd (omega arith) }

  -- the next rule costs less
  pub best-lower : (k x y : ℕ) → BestBelow g t u k x → y ≡ via g t u k → y < x → BestBelow g t u (k + 1) y
  best-lower k x y b e l =
      record {
        least = below_more (λ r. y ≤ via g t u r) k (λ r h. let q = b.least r h in omega arith) (omega arith);
        found = λ h. (k, omega arith, sym e);
      }

  -- the next rule does not cost less
  pub best-keep : (k x y : ℕ) → BestBelow g t u k x → y ≡ via g t u k → x ≤ y → BestBelow g t u (k + 1) x
  best-keep k x y b e l =
      record {
        least = below_more (λ r. x ≤ via g t u r) k b.least (omega arith);
        found = λ h. let (r, i, q) = b.found h in (r, omega arith, q);
      }

  pub best-all : (x k : ℕ) → BestBelow g t u k x → k ≡ g.rules → Best g t u x
  best-all x k b e =
      record { least = λ r h. b.least r (omega arith); found = λ h. let (r, i, q) = b.found h in (r, omega arith, q) }
