-- The next list after e that keeps to a choice at each position, where a choice goes by the labels before its position
-- alone: e up to the last position that can be raised, raised there, and on with the least labels (`raised-above`,
-- `raised_keeps`, `raised_below`, `raised-least`; `none_after`); the first one of all has the least labels throughout
-- (`completed-keeps`, `completed-below`, `completed-least`). Nothing here is about rules.
use mathlib.Core.Path.{◌≡◌, refl, sym, ◌∙◌, subst}
use mathlib.Core.Logic.{◌⊎◌, inl, inr, ⊎_elim}
use mathlib.Core.Bool.{Bool, true, false}
use mathlib.Core.List.{List}
use Prim.Native.Nat.{ℕ, zero, suc, ◌+◌, ◌≤◌, ◌<◌}
use native.Mathlib.Nat.{eq-or-lt_of_le, le_of_suc-le-suc, not-suc-le-zero}
use native.Mathlib.Omega.{arith}
use lib.Dec.{ltb}
use lib.ListN.{get_or}
use borrow.Author.Tests.{eqb-true, ltb-true, ltb-false, lt-ltb, eq-eqb}
use Rattle.basics.specs.Bounded.{last}
use Rattle.basics.proofs.Truth.{true-false, and-true, and_intro}
use Rattle.basics.proofs.Bounded.{all-at, all-intro, last-above, last-none, last-holds}
use Rattle.basics.proofs.Order.{Before}
use Rattle.basics.proofs.Comparing.{trichotomy}
use Rattle.backward.specs.Choices.{Choice, least_of, raised_of, rises_of, keeps_of, kept_to, raisable_at}
use Rattle.backward.specs.Choices.{Completed, Raised}
use Rattle.std.proofs.Common.{Some, None}
use Rattle.backward.proofs.Choosing.{Keeps, Near}

-- one choice
least-keeps : (w : Choice) → keeps_of w (least_of w) ≡ true
least-keeps (Some label) = eq-eqb label.0 label.0 refl
least-keeps None = refl

least-least : (w : Choice) (z : ℕ) → keeps_of w z ≡ true → least_of w ≤ z
least-least (Some label) z h = let e : z ≡ label.0 = eqb-true _ _ h in omega arith
least-least None z h = omega arith

raised-kept : (w : Choice) (x : ℕ) → keeps_of w (raised_of w x) ≡ true
raised-kept (Some label) x = eq-eqb label.0 label.0 refl
raised-kept None x = refl

raised-higher : (count : ℕ) (w : Choice) (x : ℕ) → rises_of count w x ≡ true → x < raised_of w x
raised-higher count (Some label) x h = ltb-true _ _ h
raised-higher count None x h = omega arith

raised-small : (count : ℕ) (w : Choice) (x : ℕ) → rises_of count w x ≡ true → least_of w < count → raised_of w x < count
raised-small count (Some label) x h l = l
raised-small count None x h l = ltb-true _ _ h

raised-lowest : (w : Choice) (x z : ℕ) → keeps_of w z ≡ true → x < z → raised_of w x ≤ z
raised-lowest (Some label) x z h l = let e : z ≡ label.0 = eqb-true _ _ h in omega arith
raised-lowest None x z h l = omega arith

rises-to : (count : ℕ) (w : Choice) (x z : ℕ) → keeps_of w z ≡ true → x < z → z < count → rises_of count w x ≡ true
rises-to count (Some label) x z h l b = let e : z ≡ label.0 = eqb-true _ _ h in lt-ltb x label.0 (omega arith)
rises-to count None x z h l b = lt-ltb (x + 1) count (omega arith)

-- n positions with `count i` labels at position i, and a choice at each that goes by the labels before it
module _
    (n : ℕ) (count : ℕ → ℕ) (choices : List ℕ → ℕ → Choice)
    (near : Near choices)
    (small :
    (u : List ℕ) (i : ℕ) → i < n → ((k : ℕ) → k < i → get_or u k 0 < count k) → least_of (choices u i) < count i) where
  abbrev Below : List ℕ → Type 0
  Below u = (k : ℕ) → k < n → get_or u k 0 < count k

  -- positions with the least label: it may stand there, is below the
  -- count, and no list that keeps to the choices has a lower one
  least_kept : (u : List ℕ) (k : ℕ) → get_or u k 0 ≡ least_of (choices u k) → keeps_of (choices u k) (get_or u k 0)
      ≡ true
  least_kept u k e = rw e (least-keeps (choices u k))

  least-below :
      (u : List ℕ) (from : ℕ) → ((k : ℕ) → k < from → k < n → get_or u k 0 < count k)
      → ((k : ℕ) → from ≤ k → k < n → get_or u k 0 ≡ least_of (choices u k))
      → (m : ℕ) → m ≤ n → (k : ℕ) → k < m → get_or u k 0 < count k
  least-below u from a b zero l k h = absurd (not-suc-le-zero h)
  least-below u from a b (suc m) l k h =
      let ih = least-below u from a b m (omega arith) in
      ⊎_elim (λ q. subst (λ (j : ℕ). get_or u j 0 < count j) (sym q) (go ih (ltb m from) refl))
      (ih k)
      (eq-or-lt_of_le (le_of_suc-le-suc h))
    where
      go : ((k : ℕ) → k < m → get_or u k 0 < count k) → (t : Bool) → ltb m from ≡ t → get_or u m 0 < count m
      go ih true e = a m (ltb-true _ _ e) l
      go ih false e = rw (b m (ltb-false _ _ e) l) (small u m l ih)

  least-lowest :
      (u v : List ℕ) (k : ℕ) → get_or u k 0 ≡ least_of (choices u k) → keeps_of (choices v k) (get_or v k 0) ≡ true
      → ((j : ℕ) → j < k → get_or v j 0 ≡ get_or u j 0) → get_or u k 0 ≤ get_or v k 0
  least-lowest u v k e h a = rw (e, sym (near v u k a)) (least-least (choices v k) (get_or v k 0) h)

  -- the first list of all
  module _ (e u : List ℕ) (f : Completed choices n 0 e u) where
    pub completed-keeps : Keeps n choices u
    completed-keeps i l = least_kept u i (f.after i (omega arith) l)

    pub completed-below : Below u
    completed-below = least-below u 0 (λ k h l. absurd (not-suc-le-zero h)) f.after n (omega arith)

    pub completed-least : (v : List ℕ) → Keeps n choices v → Before n v u → ⊥
    completed-least v kv b =
        let x =
        least-lowest u v b.place (f.after b.place (omega arith) b.within) (kv b.place b.within)
        b.agree in
        omega (arith, b.lower)

  -- where e and a later list v that keeps to the choices part, e can be raised
  module _ (e v : List ℕ) (kv : Keeps n choices v) (bv : Below v) (b : Before n e v) where
    raisable-there : raisable_at count choices e b.place ≡ true
    raisable-there =
        and_intro _ _
        (all-intro (λ k. keeps_of (choices e k) (get_or e k 0)) b.place (λ k l.
        rw (near e v k (λ j m. b.agree j (omega arith)), b.agree k l) (kv k (let x = b.within in omega arith))))
        (rises-to (count b.place) (choices e b.place) (get_or e b.place 0) (get_or v b.place 0)
        (rw (near e v b.place b.agree) (kv b.place b.within)) b.lower (bv b.place b.within))

    pub none_after : last n (raisable_at count choices e) ≡ None → ⊥
    none_after h = true-false raisable-there (last-none (raisable_at count choices e) n b.place h b.within)

  -- e raised at the last position where that can be done
  module _
      (e u : List ℕ) (i : ℕ) (be : Below e) (h : last n (raisable_at count choices e) ≡ Some i)
      (t : Raised choices n i e u) where
    within : i < n
    within = (last-holds (raisable_at count choices e) n i h).0

    raisable : (kept_to choices e i ≡ true) × (rises_of (count i) (choices e i) (get_or e i 0) ≡ true)
    raisable =
        and-true (kept_to choices e i) _ (last-holds (raisable_at count choices e) n i h).1

    pub raised-above : Before n e u
    raised-above =
        record {
          place = i;
          within = within;
          agree = λ k l. sym (t.before k l);
          lower = rw t.here (raised-higher (count i) (choices e i) (get_or e i 0) raisable.1);
        }

    pub raised_keeps : Keeps n choices u
    raised_keeps k l = go (trichotomy k i)
      where
        here : keeps_of (choices u i) (get_or u i 0) ≡ true
        here = rw (near u e i t.before, t.here) (raised-kept (choices e i) (get_or e i 0))

        go : (k < i) ⊎ ((k ≡ i) ⊎ (i < k)) → keeps_of (choices u k) (get_or u k 0) ≡ true
        go (inl a) =
            rw (near u e k (λ j m. t.before j (omega arith)), t.before k a)
            (all-at (λ k. keeps_of (choices e k) (get_or e k 0)) i raisable.0 k a)
        go (inr (inl q)) = subst (λ (j : ℕ). keeps_of (choices u j) (get_or u j 0) ≡ true) (sym q) here
        go (inr (inr a)) = least_kept u k (t.after k a l)

    pub raised_below : Below u
    raised_below = least-below u (suc i) front (λ k a l. t.after k a l) n (omega arith)
      where
        here : get_or u i 0 < count i
        here =
            rw t.here
            (raised-small (count i) (choices e i) (get_or e i 0) raisable.1
            (small e i within (λ j m. be j (let x = within in omega arith))))

        front : (k : ℕ) → k < suc i → k < n → get_or u k 0 < count k
        front k a l =
            ⊎_elim (λ q. subst (λ (j : ℕ). get_or u j 0 < count j) (sym q) here) (λ m. rw (t.before k m) (be k l))
            (eq-or-lt_of_le (le_of_suc-le-suc a))

    -- no list v that keeps to the choices lies between e and u: b says where e and v part, c where v and u do
    module _ (v : List ℕ) (kv : Keeps n choices v) (bv : Below v) (b : Before n e v) (c : Before n v u) where
      reach : b.place ≤ i
      reach = last-above (raisable_at count choices e) n i b.place h b.within (raisable-there e v kv bv b)

      -- e and v part before position i
      early : b.place < i → (c.place < b.place) ⊎ ((c.place ≡ b.place) ⊎ (b.place < c.place)) → ⊥
      early l (inl m) =
          let x : get_or u c.place 0 ≡ get_or v c.place 0 =
          t.before c.place (omega arith) ∙ b.agree c.place m in
          omega (arith, c.lower)
      early l (inr (inl q)) =
          let x : get_or v b.place 0 < get_or u b.place 0 = subst (λ (j : ℕ). get_or v j 0 < get_or u j 0) q c.lower in
          omega (arith, x, t.before b.place l, b.lower)
      early l (inr (inr m)) = omega (arith, c.agree b.place m, t.before b.place l, b.lower)

      -- they part at position i
      lowest-here : b.place ≡ i → get_or u i 0 ≤ get_or v i 0
      lowest-here q =
          let a : (j : ℕ) → j < i → get_or v j 0 ≡ get_or e j 0 = λ j m. sym (b.agree j (omega arith)) in
          let k : keeps_of (choices e i) (get_or v i 0) ≡ true = rw (sym (near v e i a)) (kv i within) in
          let o : get_or e i 0 < get_or v i 0 = subst (λ (j : ℕ). get_or e j 0 < get_or v j 0) q b.lower in
          rw t.here (raised-lowest (choices e i) (get_or e i 0) (get_or v i 0) k o)

      late : b.place ≡ i → (c.place < i) ⊎ ((c.place ≡ i) ⊎ (i < c.place)) → ⊥
      late q (inl m) =
          let x : get_or u c.place 0 ≡ get_or v c.place 0 =
          t.before c.place m ∙ b.agree c.place (omega arith) in
          omega (arith, c.lower)
      late q (inr (inl z)) =
          let x : get_or v i 0 < get_or u i 0 = subst (λ (j : ℕ). get_or v j 0 < get_or u j 0) z c.lower in
          omega (arith, lowest-here q)
      late q (inr (inr m)) =
          omega (
            arith,
            least-lowest u v c.place (t.after c.place m c.within) (kv c.place c.within) c.agree,
            c.lower,
          )

      pub raised-least : ⊥
      raised-least =
          ⊎_elim (λ q. late q (trichotomy c.place i)) (λ l. early l (trichotomy c.place b.place))
          (eq-or-lt_of_le reach)
