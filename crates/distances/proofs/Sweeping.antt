-- One sweep of a fill over all states, with the states below u done (`Sweeping`): it begins (`sweep-none`), keeps an
-- entry (`sweep-keep`), writes one (`sweep-write`, which leaves the table good: `good-best`), and where no entry fell
-- the table passes (`sweep-all`). The sweeps of the fill rest on these.
use mathlib.Core.Path.{◌≡◌, refl, sym}
use mathlib.Core.Bool.{Bool, true, false, false≢true}
use mathlib.Core.List.{List}
use Prim.Native.Nat.{ℕ, ◌+◌, ◌≤◌, ◌<◌}
use native.Mathlib.Omega.{arith}
use lib.ListN.{get_or, set}
use borrow.Author.Count.{below_more}
use Rattle.basics.specs.Lists.{total}
use Rattle.basics.specs.Marks.{mark}
use Rattle.distances.specs.Graphs.{Graph}
use Rattle.distances.specs.Filling.{Cheap, Good, via, Best, Swept}
use Rattle.distances.proofs.Passing.{passes-intro}
use Rattle.distances.proofs.Writing.{entry-falls, total_falls, room, good-write}
use Rattle.distances.proofs.OneRule.{via-at, via-found}

-- One sweep over the states, with those below u done. The entries are numbers of 32 bits.
pub record Sweeping (g : Graph) (t₀ t : List ℕ) (fell : Bool) (u : ℕ) : Type 0 where
  pub good : Good g t
  pub entries : (w : ℕ) → get_or t w 0 ≤ mark
  pub le : total t ≤ total t₀
  pub falls : fell ≡ true → total t < total t₀
  pub done : fell ≡ false → (w : ℕ) → w < u → (r : ℕ) → r < g.rules → get_or t w 0 ≤ via g t w r

module _ (g : Graph) where
  pub sweep-none : (t : List ℕ) → Good g t → ((w : ℕ) → get_or t w 0 ≤ mark) → Sweeping g t t false 0
  sweep-none t k entries =
      record {
        good = k;
        entries = entries;
        le = omega arith;
        falls = λ e. absurd (false≢true e);
        done = λ e w h. absurd (omega arith);
      }

  pub sweep-keep :
      (t₀ t : List ℕ) (fell : Bool) (u x : ℕ)
      → Sweeping g t₀ t fell u → Best g t u x → get_or t u 0 ≤ x → Sweeping g t₀ t fell (u + 1)
  sweep-keep t₀ t fell u x s b l =
      record {
        good = s.good;
        entries = s.entries;
        le = s.le;
        falls = s.falls;
        done = λ e.
            below_more (λ w. (r : ℕ) → r < g.rules → get_or t w 0 ≤ via g t w r) u (s.done e)
            (λ r h. let q = b.least r h in omega arith);
      }

  pub sweep-write :
      (t₀ t : List ℕ) (fell : Bool) (u x : ℕ)
      → Sweeping g t₀ t fell u → Good g (set t u x) → x < get_or t u 0 → Sweeping g t₀ (set t u x) true (u + 1)
  sweep-write t₀ t fell u x s k l =
      let f = total_falls t u x l in
      let a = s.le in
      record {
        good = k;
        entries = λ w. omega (arith, s.entries w, entry-falls t u x w (omega arith));
        le = omega arith;
        falls = λ e. omega arith;
        done = λ e. absurd (false≢true (sym e));
      }

  module _ (small : g.states ≤ 16384) (cheap : Cheap g) where
    -- writing the least cost by one rule
    pub good-best :
        (t : List ℕ) (u x : ℕ)
        → Good g t → u < g.states → Best g t u x → x < get_or t u 0 → get_or t u 0 ≤ mark → Good g (set t u x)
    good-best t u x k hu b l m =
        let (r, hr, e) = b.found (omega arith) in
        let (hv, hm) = via-found g t u r (omega arith) in
        let q = via-at g t u r (g.step u r) refl hv hm in
        good-write g t k small cheap u r (g.step u r) x hu hr refl hv hm (omega arith) l

    pub sweep-all :
        (t₀ t : List ℕ) (fell : Bool) (u : ℕ) → Sweeping g t₀ t fell u → g.states ≤ u → Swept g t₀ t fell
    sweep-all t₀ t fell u s l =
        record {
          good = s.good;
          falls = s.falls;
          passes = λ f.
              passes-intro g t s.good.zero_at_goals (λ w r hw hr hv hm.
              let m : get_or t (g.step w r) 0 < mark = omega (arith, s.entries (g.step w r)) in
              let q = via-at g t w r (g.step w r) refl hv m in
              let a = s.done f w (omega arith) r hr in
              let b = room g t s.good small (g.step w r) hv m in
              let c = cheap r hr in
              (omega arith, omega arith));
        }
