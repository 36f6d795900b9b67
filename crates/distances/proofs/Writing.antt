-- The one write of a fill: an entry falls to a cost by one rule. It keeps the table good (`good-write`) and lowers the
-- sum (`total_falls`). Entries of a good table leave room for a cost more (`room`); the table of zeros at the goals and
-- marks elsewhere is good (`Cleared`, `good-clear`). The fill's steps rest on these.
use mathlib.Core.Path.{◌≡◌, refl, sym, ap, ◌∙◌}
use mathlib.Core.Logic.{⊎_elim}
use mathlib.Core.Bool.{Bool, true, false, cond}
use mathlib.Core.List.{List, [], ◌∷◌}
use Prim.Native.Nat.{ℕ, zero, suc, ◌+◌, ◌*◌, ◌≤◌, ◌<◌}
use native.Mathlib.Omega.{arith}
use lib.Dec.{ltb}
use lib.ListN.{length, get_or, set, length-set}
use lib.Seq.{get_or-set_same, get_or-set_other}
use borrow.Author.Tests.{lt-ltb, le-ltb}
use Rattle.basics.specs.Lists.{total}
use Rattle.basics.specs.Marks.{mark}
use Rattle.basics.proofs.Comparing.{below?, same?}
use Rattle.distances.specs.Graphs.{Graph, Achieved}
use Rattle.distances.specs.Filling.{Cheap, unmarked, Good}
use Rattle.distances.proofs.Reaching.{reaches-intro}

-- how many entries are not the mark
flag-le : (b : Bool) → cond b 1 0 ≤ 1
flag-le true = omega arith
flag-le false = omega arith

unmarked-le : (t : List ℕ) → unmarked t ≤ length t
unfolding unmarked
unmarked-le [] = omega arith
unmarked-le (x ∷ xs) =
    let ih = unmarked-le xs in
    let f = flag-le (ltb x mark) in
    omega arith

unmarked-grows : (t : List ℕ) (i x : ℕ) → x < mark → unmarked t ≤ unmarked (set t i x)
unfolding unmarked
unmarked-grows [] i x h = omega arith
unmarked-grows (y ∷ ys) zero x h = rw (lt-ltb x mark h) (let f = flag-le (ltb y mark) in omega arith)
unmarked-grows (y ∷ ys) (suc i) x h = let ih = unmarked-grows ys i x h in omega arith

unmarked-new :
    (t : List ℕ) (i x : ℕ) → x < mark → i < length t → mark ≤ get_or t i 0 → unmarked (set t i x) ≡ unmarked t + 1
unfolding unmarked
unmarked-new [] i x h l m = omega arith
unmarked-new (y ∷ ys) zero x h l m = rw (lt-ltb x mark h, le-ltb y mark m) (omega arith)
unmarked-new (y ∷ ys) (suc i) x h l m =
    let ih = unmarked-new ys i x h (omega arith) m in
    omega arith

-- a lower entry: no entry is higher than before, and the sum is lower
pub entry-falls : (t : List ℕ) (i x w : ℕ) → x ≤ get_or t i 0 → get_or (set t i x) w 0 ≤ get_or t w 0
entry-falls [] i x w h = omega arith
entry-falls (y ∷ ys) zero x zero h = h
entry-falls (y ∷ ys) zero x (suc w) h = omega arith
entry-falls (y ∷ ys) (suc i) x zero h = omega arith
entry-falls (y ∷ ys) (suc i) x (suc w) h = entry-falls ys i x w h

pub total_falls : (t : List ℕ) (i x : ℕ) → x < get_or t i 0 → total (set t i x) < total t
unfolding total
total_falls [] i x h = omega arith
total_falls (y ∷ ys) zero x h = omega arith
total_falls (y ∷ ys) (suc i) x h = let ih = total_falls ys i x h in omega arith

-- every entry that is not the mark is far below it
pub room :
    (g : Graph) (t : List ℕ) → Good g t → g.states ≤ 16384
    → (u : ℕ) → u < g.states → get_or t u 0 < mark → get_or t u 0 ≤ 4177920
room g t k small u l m =
    let b = k.bounded u l m in
    let c = unmarked-le t in
    let e = k.len in
    omega arith

-- The one write: rule r takes u to v, and the cost by it is less than the entry of u.
module _
    (g : Graph) (t : List ℕ) (k : Good g t) (small : g.states ≤ 16384) (cheap : Cheap g)
    (u r v x : ℕ) (hu : u < g.states) (hr : r < g.rules) (e : g.step u r ≡ v) (hv : v < g.states)
    (hm : get_or t v 0 < mark) (ex : x ≡ get_or t v 0 + g.cost r) (less : x < get_or t u 0) where
  write-small : x < mark
  write-small =
      let q = room g t k small v hv hm in
      let c = cheap r hr in
      omega arith

  write-at : get_or (set t u x) u 0 ≡ x
  write-at = get_or-set_same t u x 0 (let l = k.len in omega arith)

  write-zero : (w : ℕ) → w < g.states → g.goal w ≡ true → get_or (set t u x) w 0 ≡ 0
  write-zero w hw gw =
      let z = k.zero_at_goals w hw gw in
      ⊎_elim (λ q. let y : get_or t u 0 ≡ 0 = rw q at z in absurd (omega arith))
      (λ q. get_or-set_other t u w x 0 q ∙ z)
      (same? w u)

  write-reach : Achieved g u x
  write-reach =
      let (rs, w, c) = k.achieved v hv hm in
      (r ∷ rs, reaches-intro g u r rs hr (rw e hv) (rw e w), omega arith)

  write-achieved : (w : ℕ) → w < g.states → get_or (set t u x) w 0 < mark → Achieved g w (get_or (set t u x) w 0)
  write-achieved w hw m =
      ⊎_elim (λ q. rw q (rw write-at write-reach))
      (λ q. let o = get_or-set_other t u w x 0 q in rw o (k.achieved w hw (omega arith)))
      (same? w u)

  write-bounded-here : x ≤ 255 * unmarked (set t u x)
  write-bounded-here =
      let grows = unmarked-grows t u x write-small in
      let c = cheap r hr in
      let b = k.bounded v hv hm in
      let l = k.len in
      ⊎_elim (λ q. let bu = k.bounded u hu q in omega arith)
      (λ q. let new = unmarked-new t u x write-small (omega arith) q in omega arith)
      (below? (get_or t u 0) mark)

  write-bounded :
      (w : ℕ) → w < g.states → get_or (set t u x) w 0 < mark → get_or (set t u x) w 0 ≤ 255 * unmarked (set t u x)
  write-bounded w hw m =
      ⊎_elim (λ q. rw q (rw write-at write-bounded-here))
      (λ q.
      let o = get_or-set_other t u w x 0 q in
      let b = k.bounded w hw (omega arith) in
      let grows = unmarked-grows t u x write-small in
      omega arith)
      (same? w u)

  pub good-write : Good g (set t u x)
  good-write =
      record {
        len = length-set t u x ∙ k.len;
        zero_at_goals = write-zero;
        achieved = write-achieved;
        bounded = write-bounded;
      }

-- The table before the first write, its entries below u: 0 at the goals, the mark elsewhere.
abbrev pub Cleared : Graph → List ℕ → ℕ → Type 0
Cleared g t u = (w : ℕ) → w < u → get_or t w 0 ≡ cond (g.goal w) 0 mark

pub good-clear : (g : Graph) (t : List ℕ) → length t ≡ g.states → Cleared g t g.states → Good g t
good-clear g t l c =
    record {
      len = l;
      zero_at_goals = λ u h e. c u h ∙ ap (λ (b : Bool). cond b 0 mark) e;
      achieved = λ u h m. let (e, q) = goal-there u (g.goal u) refl (c u h) m in ([], e, sym q);
      bounded = λ u h m. let (e, q) = goal-there u (g.goal u) refl (c u h) m in omega arith;
    }
  where
    goal-there :
        (u : ℕ) (b : Bool) → g.goal u ≡ b → get_or t u 0 ≡ cond b 0 mark → get_or t u 0 < mark
        → (g.goal u ≡ true) × (get_or t u 0 ≡ 0)
    goal-there u true e q m = (e, q)
    goal-there u false e q m = absurd (omega arith)
