-- A relabelled valid block is valid (`relabelled_valid`): its terms are right, and the terms bound before are still
-- bound. So whatever holds of every valid block holds of the relabelled one; tables and their fill rest on this.
use mathlib.Core.Path.{◌≡◌, ap, ap₂, ◌∙◌}
use mathlib.Core.Bool.{true, ◌&&◌, false≢true}
use mathlib.Core.List.{List}
use Prim.Native.Nat.{ℕ, ◌<◌}
use native.Mathlib.Omega.{arith}
use lib.Dec.{ltb}
use borrow.Author.Tests.{ltb-true, lt-ltb}
use Rattle.basics.proofs.Truth.{and_intro}
use Rattle.basics.proofs.Bounded.{all-intro}
use Rattle.blocks.specs.Terms.{term_of, term_ok}
use Rattle.blocks.specs.Layout.{positions, abstracts, rules, goals, label_count, abstract_count, map_byte, map_at}
use Rattle.blocks.specs.Layout.{left_of}
use Rattle.blocks.specs.Layout.{right_of, goal_of}
use Rattle.blocks.specs.Validity.{side_ok, rule_terms_ok, goal_terms_ok, map_ok, terms_ok, bound_in, rule_bound}
use Rattle.blocks.specs.Validity.{bound_ok, Sizes}
use Rattle.blocks.specs.Validity.{Headed, Valid}
use Rattle.psvn.specs.Relabelling.{relabel_term, relabel_block}
use Rattle.blocks.proofs.TermCases.{View, label, variable, dash, refused, view, is-label, is-variable, is_dash_lem}
use Rattle.blocks.proofs.TermCases.{is-refused}
use Rattle.blocks.proofs.Accepted.{map_below, left-side, right_side, goal-side, right_bound, side-term}
use Rattle.psvn.proofs.Relabelled.{positions-relabelled, labels-relabelled, abstracts-relabelled}
use Rattle.psvn.proofs.Relabelled.{rules-relabelled, goals-relabelled, label-count-relabelled}
use Rattle.psvn.proofs.Relabelled.{abstract-states-relabelled, block-length-relabelled, map-byte-relabelled}
use Rattle.psvn.proofs.Relabelled.{left-relabelled, right-relabelled, goal-relabelled, relabelled-long}
use Rattle.psvn.proofs.Homomorphism.{relabel-label, relabel-other, bound-in-relabelled, map-small, map-alike}

module _ (b : List ℕ) (v : Valid b) where
  -- a relabelled term is right in the relabelled block
  term-relabelled :
      (i t : ℕ) → i < positions b → term_ok (label_count b i) (term_of t) ≡ true
      → term_ok (abstract_count b i) (term_of (relabel_term (map_at b i) t)) ≡ true
  term-relabelled i t l ok = go (view t)
    where
      go : View t → term_ok (abstract_count b i) (term_of (relabel_term (map_at b i) t)) ≡ true
      go (label a) =
          let k : t < label_count b i = ltb-true t (label_count b i) (rw (is-label t a) at ok) in
          rw (relabel-label (map_at b i) t a, is-label (map_at b i t) (map-small b v i t l k))
          (lt-ltb _ _ (map_below b v i t k))
      go (variable a c) = rw (relabel-other (map_at b i) t a, is-variable t a c)
      go (dash e) = rw (relabel-other (map_at b i) t (omega arith), is_dash_lem t e)
      go (refused a c) = absurd (false≢true (rw (is-refused t a c) at ok))

  -- and so is a relabelled side
  side-relabelled :
      (side side' : ℕ → ℕ) → side_ok b side ≡ true
      → ((i : ℕ) → i < positions b → side' i ≡ relabel_term (map_at b i) (side i))
      → side_ok (relabel_block b) side' ≡ true
  unfolding side_ok
  side-relabelled side side' ok mapped =
      rw (positions-relabelled b)
      (all-intro (λ i. term_ok (label_count (relabel_block b) i) (term_of (side' i))) (positions b) (λ i l.
      ap₂ (λ (k t : ℕ). term_ok k (term_of t)) (label-count-relabelled b i) (mapped i l)
      ∙ term-relabelled i (side i) l (side-term b side ok i l)))

  -- the conditions on a block, one by one
  sizes-relabelled : Sizes (relabel_block b)
  sizes-relabelled =
      let h = v.sized.headed in
      record {
        n_low = omega (arith, positions-relabelled b);
        n_high = omega (arith, positions-relabelled b);
        l_low = omega (arith, labels-relabelled b);
        l_high = omega (arith, labels-relabelled b);
        k_low = omega (arith, abstracts-relabelled b);
        k_high = omega (arith, abstracts-relabelled b, labels-relabelled b);
        r_high = omega (arith, rules-relabelled b);
        g_low = omega (arith, goals-relabelled b);
        g_high = omega (arith, goals-relabelled b);
      }

  headed-relabelled : Headed (relabel_block b)
  headed-relabelled =
      let h = v.sized.headed in
      record {
        long = relabelled-long b;
        sizes = sizes-relabelled;
        few = omega (arith, abstract-states-relabelled b);
      }

  map-ok-relabelled : map_ok (relabel_block b) ≡ true
  unfolding map_ok
  map-ok-relabelled =
      rw (labels-relabelled b, abstracts-relabelled b)
      (all-intro (λ x. ltb (map_byte (relabel_block b) x) (abstracts b)) (abstracts b) (λ x l.
      lt-ltb (map_byte (relabel_block b) x) (abstracts b) (omega (arith, map-byte-relabelled b x l))))

  terms-ok-relabelled : terms_ok (relabel_block b) ≡ true
  unfolding terms_ok rule_terms_ok goal_terms_ok
  terms-ok-relabelled =
      let B = relabel_block b in
      and_intro (rule_terms_ok B) (goal_terms_ok B)
      (rw (rules-relabelled b)
      (all-intro (λ r. side_ok B (left_of B r) && side_ok B (right_of B r)) (rules b) (λ r l.
      and_intro (side_ok B (left_of B r)) (side_ok B (right_of B r))
      (side-relabelled (left_of b r) (left_of B r) (left-side b v r l) (left-relabelled b r l))
      (side-relabelled (right_of b r) (right_of B r) (right_side b v r l) (right-relabelled b r l)))))
      (rw (goals-relabelled b)
      (all-intro (λ g. side_ok B (goal_of B g)) (goals b) (λ g l.
      side-relabelled (goal_of b g) (goal_of B g) (goal-side b v g l) (goal-relabelled b g l))))

  bound-ok-relabelled : bound_ok (relabel_block b) ≡ true
  unfolding bound_ok rule_bound
  bound-ok-relabelled =
      let B = relabel_block b in
      rw (rules-relabelled b)
      (all-intro (rule_bound B) (rules b) (λ r l.
      rw (positions-relabelled b)
      (all-intro (λ i. bound_in (positions b) (left_of B r) (term_of (right_of B r i))) (positions b) (λ i k.
      ap (λ (t : ℕ). bound_in (positions b) (left_of B r) (term_of t)) (right-relabelled b r l i k)
      ∙ bound-in-relabelled (positions b) (label_count b) (map_at b) (map-small b v) (map-alike b) (left_of b r)
      (left_of B r)
      (side-term b (left_of b r) (left-side b v r l)) (left-relabelled b r l) i (right_of b r i) k
      (side-term b (right_of b r) (right_side b v r l) i k) (right_bound b v r l i k)))))

  pub relabelled_valid : Valid (relabel_block b)
  relabelled_valid =
      record {
        sized = record { headed = headed-relabelled; len = block-length-relabelled b };
        mapped = map-ok-relabelled;
        terms = terms-ok-relabelled;
        bound = bound-ok-relabelled;
      }
