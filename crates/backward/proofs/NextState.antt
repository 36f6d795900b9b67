-- What stepping back answers, in the document's words and both ways: the state found is the next one in rank order that
-- the rule takes to s (`found-next`, `next-found`), and 'none further' is told exactly where there is none
-- (`none-none`, `none_found`). Everything else that is said of `step_back` rests on these.
use mathlib.Core.Path.{◌≡◌, refl, sym, ap, ◌∙◌, subst}
use mathlib.Core.Logic.{◌⊎◌, inl, inr, ⊎_elim}
use mathlib.Core.Bool.{Bool, true, false, ◌&&◌}
use mathlib.Core.List.{List, []}
use Prim.Native.Nat.{ℕ, ◌≤◌, ◌<◌}
use native.Mathlib.Omega.{arith}
use lib.Dec.{leb}
use borrow.Author.Tests.{lt-ltb, le-ltb, leb-true, le-leb}
use Rattle.basics.specs.Bounded.{some, first}
use Rattle.basics.proofs.Truth.{true-false, and-true, and_intro, not_so}
use Rattle.basics.proofs.Bounded.{some-none, some-intro, first-none, first_holds, first-least, first-at}
use Rattle.blocks.specs.States.{state_ok}
use Rattle.blocks.specs.Validity.{Headed}
use Rattle.psvn.specs.Rules.{leads}
use Rattle.psvn.specs.Ranks.{state_rank, unrank_state, state_count}
use Rattle.psvn.proofs.RankLaws.{state-rank-below, unrank-state-rank, unrank-state-ok, state-rank-unrank}
use Rattle.backward.specs.Predecessors.{Earlier, from_rank, next_rank, NextState, found, none_further, step_back}
use Rattle.backward.specs.Predecessors.{NextPredecessor, NoPredecessor}

-- the two answers are told apart, and a state found is told whole
abbrev found_else : List ℕ → NextState → List ℕ
found_else e (found u) = u
found_else e none_further = e

abbrev is_none : NextState → Bool
is_none (found u) = false
is_none none_further = true

pub found_none : {p : NextState} {u : List ℕ} → p ≡ found u → p ≡ none_further → ⊥
found_none f g = true-false (ap is_none g) (ap is_none f)

pub same-found : {p : NextState} {u v : List ℕ} → p ≡ found u → p ≡ found v → u ≡ v
same-found f g = ap (found_else []) (sym f ∙ g)

module _ (b : List ℕ) (h : Headed b) (r : ℕ) (s : List ℕ) (earlier : Earlier) where
  abbrev Next : List ℕ → Type 0
  Next = NextPredecessor b r s earlier

  abbrev NoNext : Type 0
  NoNext = NoPredecessor b r s earlier

  -- what is asked of rank k
  abbrev counts : ℕ → Bool
  counts k = leb (from_rank b earlier) k && leads b r (unrank_state b k) s

  counts-state : (k : ℕ) → counts k ≡ true → (from_rank b earlier ≤ k) × (leads b r (unrank_state b k) s ≡ true)
  counts-state k e =
      let m = and-true (leb (from_rank b earlier) k) (leads b r (unrank_state b k) s) e in
      (leb-true (from_rank b earlier) k m.0, m.1)

  state-counts :
      (v : List ℕ) → state_ok b v ≡ true → leads b r v s ≡ true → from_rank b earlier ≤ state_rank b v
      → counts (state_rank b v) ≡ true
  state-counts v ok l a =
      and_intro (leb (from_rank b earlier) (state_rank b v)) (leads b r (unrank_state b (state_rank b v)) s)
      (le-leb (from_rank b earlier) (state_rank b v) a) (rw (unrank-state-rank b v ok) l)

  -- the answer, by the rank
  at-rank : (k : ℕ) → next_rank b r s earlier ≡ k → k < state_count b → step_back b r s earlier
      ≡ found (unrank_state b k)
  unfolding step_back
  at-rank k e l = rw e (rw (lt-ltb k (state_count b) l))

  at-end : next_rank b r s earlier ≡ state_count b → step_back b r s earlier ≡ none_further
  unfolding step_back
  at-end e = rw e (rw (le-ltb (state_count b) (state_count b) (omega arith)))

  pub next-found : (u : List ℕ) → Next u → step_back b r s earlier ≡ found u
  unfolding next_rank
  next-found u n =
      let top = state-rank-below b u n.state in
      at-rank (state_rank b u)
      (first-at counts (state_count b) (state_rank b u) top (state-counts u n.state n.leads_there n.above)
      (λ k l.
      not_so (counts k) (λ e.
      let m = counts-state k e in
      let q = state-rank-unrank b h k (omega arith) in
      let x = n.least (unrank_state b k) (unrank-state-ok b h k) m.1 (rw q m.0) in
      omega arith)))
      top
      ∙ ap found (unrank-state-rank b u n.state)

  pub none_found : NoNext → step_back b r s earlier ≡ none_further
  unfolding next_rank
  none_found none =
      at-end (first-none counts (state_count b) (some-none counts (state_count b) (λ k l.
      not_so (counts k) (λ e.
      let m = counts-state k e in
      none (unrank_state b k) (unrank-state-ok b h k) m.1 (rw (state-rank-unrank b h k l) m.0)))))

  -- the other way
  next-at : some (state_count b) counts ≡ true → Next (unrank_state b (first (state_count b) counts))
  next-at e =
      let k = first (state_count b) counts in
      let f = first_holds counts (state_count b) e in
      let m = counts-state k f.1 in
      let q = state-rank-unrank b h k f.0 in
      record {
        state = unrank-state-ok b h k;
        leads_there = m.1;
        above = rw q m.0;
        least = λ v ok l a.
            let z : ¬ (state_rank b v < first (state_count b) counts) =
            λ x. true-false (state-counts v ok l a) (first-least counts (state_count b) (state_rank b v) x) in
            omega (arith, q);
      }

  -- 'found' with the next state, or 'none further' where there is none
  pub answer :
      ((u : List ℕ) × (step_back b r s earlier ≡ found u) × Next u) ⊎ ((step_back b r s earlier ≡ none_further)
      × NoNext)
  unfolding next_rank
  answer = go (some (state_count b) counts) refl
    where
      go :
          (t : Bool) → some (state_count b) counts ≡ t
          → ((u : List ℕ) × (step_back b r s earlier ≡ found u) × Next u)
          ⊎ ((step_back b r s earlier ≡ none_further) × NoNext)
      go true e =
          let k = first (state_count b) counts in
          inl (unrank_state b k, at-rank k refl (first_holds counts (state_count b) e).0, next-at e)
      go false e =
          inr (
            at-end (first-none counts (state_count b) e),
            λ v ok l a.
                true-false
                (some-intro counts (state_count b) (state_rank b v) (state-rank-below b v ok) (state-counts v ok l a))
                e,
          )

  pub found-next : (u : List ℕ) → step_back b r s earlier ≡ found u → Next u
  found-next u e =
      ⊎_elim (λ k. subst Next (same-found k.1 e) k.2) (λ k. absurd (found_none e k.0)) answer

  pub none-none : step_back b r s earlier ≡ none_further → NoNext
  none-none e = ⊎_elim (λ k. absurd (found_none k.1 e)) (λ k. k.1) answer
