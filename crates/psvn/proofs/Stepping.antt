-- States stay states: applying a rule keeps a valid state valid (`step-state`; n labels it has in any case:
-- `step-length`), the relabelled state of a valid state is an abstract one (`relabelled-state`), and the abstract
-- states are those of the relabelled block (`abstract_states_lem`). Runs, searches and tables rest on these.
use mathlib.Core.Path.{◌≡◌, refl, ap}
use mathlib.Core.Bool.{Bool, true, ◌&&◌}
use mathlib.Core.List.{List}
use Prim.Native.Nat.{ℕ, ◌<◌}
use lib.Dec.{eqb, ltb}
use lib.ListN.{length, get_or}
use borrow.Author.Tests.{ltb-true}
use Rattle.basics.specs.Bounded.{first}
use Rattle.basics.proofs.Bounded.{first_holds, all-ext}
use Rattle.blocks.specs.Terms.{term_of, term_ok}
use Rattle.blocks.specs.Layout.{positions, rules, label_count, abstract_count, left_of, right_of}
use Rattle.blocks.specs.Validity.{bound_in, Valid}
use Rattle.blocks.specs.States.{labelled, state_ok, abstract_ok}
use Rattle.psvn.specs.Rules.{bound, given, step}
use Rattle.psvn.specs.Relabelling.{relabel_block, relabel_state}
use Rattle.blocks.proofs.TermCases.{View, label, variable, dash, refused, view, is-label, is-variable, is_dash_lem}
use Rattle.blocks.proofs.TermCases.{is-refused}
use Rattle.blocks.proofs.Accepted.{map_below, right_side, right_bound, side-term}
use Rattle.blocks.proofs.StateLaws.{state-label, labelled-intro}
use Rattle.psvn.proofs.Making.{rewritten-at, rewritten-length}
use Rattle.psvn.proofs.Relabelled.{positions-relabelled, label-count-relabelled, relabelled-labels}
use Rattle.psvn.proofs.Relabelled.{relabelled-label}

-- the label that a bound term gives is below the count at its position
module _
    (n : ℕ) (count : ℕ → ℕ) (alike : (i j : ℕ) → count i ≡ count j) (left : ℕ → ℕ) (s : List ℕ)
    (below : (i : ℕ) → i < n → get_or s i 0 < count i) where
  given_below :
      (i t : ℕ) → i < n → term_ok (count i) (term_of t) ≡ true → bound_in n left (term_of t) ≡ true
      → given n left s i (term_of t) < count i
  unfolding bound
  given_below i t l ok bd = go (view t)
    where
      go : View t → given n left s i (term_of t) < count i
      go (label a) = rw (is-label t a) (ltb-true t (count i) (rw (is-label t a) at ok))
      go (variable a b) =
          let k = first_holds (λ j. eqb (left j) t) n (rw (is-variable t a b) at bd) in
          rw (is-variable t a b, alike i (first n (λ j. eqb (left j) t))) (below (first n (λ j. eqb (left j) t)) k.0)
      go (dash e) = rw (is_dash_lem t e) (below i l)
      go (refused a b) = rw (is-refused t a b) (below i l)

module _ (b : List ℕ) where
  -- all positions have the same labels
  pub count-alike : (i j : ℕ) → label_count b i ≡ label_count b j
  unfolding label_count
  count-alike i j = refl

  pub step-length : (r : ℕ) (s : List ℕ) → length (step b r s) ≡ positions b
  unfolding step
  step-length r s = rewritten-length (positions b) (left_of b r) (right_of b r) s

module _ (b : List ℕ) (v : Valid b) where
  pub step-state : (r : ℕ) → r < rules b → (s : List ℕ) → state_ok b s ≡ true → state_ok b (step b r s) ≡ true
  unfolding step
  step-state r lr s ok =
      let n = positions b in
      labelled-intro n (label_count b) (step b r s) (step-length b r s) (λ i l.
      rw (rewritten-at n (left_of b r) (right_of b r) s i l)
      (given_below n (label_count b) (count-alike b) (left_of b r) s (state-label b s ok) i (right_of b r i) l
      (side-term b (right_of b r) (right_side b v r lr) i l) (right_bound b v r lr i l)))

  pub relabelled-state : (s : List ℕ) → state_ok b s ≡ true → abstract_ok b (relabel_state b s) ≡ true
  relabelled-state s ok =
      labelled-intro (positions b) (abstract_count b) (relabel_state b s) (relabelled-labels b s) (λ i l.
      rw (relabelled-label b s i l) (map_below b v i (get_or s i 0) (state-label b s ok i l)))

-- the abstract states are the states of the relabelled block
pub abstract_states_lem : (b u : List ℕ) → state_ok (relabel_block b) u ≡ abstract_ok b u
unfolding labelled
abstract_states_lem b u =
    let n = positions b in
    rw (positions-relabelled b)
    (ap (λ (t : Bool). eqb (length u) n && t)
    (all-ext (λ i. ltb (get_or u i 0) (label_count (relabel_block b) i))
    (λ i. ltb (get_or u i 0) (abstract_count b i)) n
    (λ i l.
    ap (ltb (get_or u i 0)) (label-count-relabelled b i))))
