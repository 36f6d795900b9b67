-- Relabelling goes with matching and with applying: a rule that takes s to t takes the relabelled s to the relabelled t
-- in the relabelled block (`applies-relabelled`, `step-relabelled`), and a goal that s meets is met by the relabelled s
-- (`meets-relabelled`). All rests on one lemma about the label that a term gives (`given-relabelled`). Tables rest on
-- this.
use mathlib.Core.Path.{◌≡◌, refl, sym, ap, ◌∙◌}
use mathlib.Core.Bool.{true}
use mathlib.Core.List.{List}
use Prim.Native.Nat.{ℕ, ◌≤◌, ◌<◌}
use native.Mathlib.Omega.{arith}
use lib.Dec.{eqb}
use lib.ListN.{get_or}
use borrow.Author.Tests.{eq-eqb, ne_eqb, ltb-true}
use Rattle.basics.specs.Bounded.{some, first}
use Rattle.basics.specs.Lists.{tabulate}
use Rattle.basics.proofs.Bounded.{some-intro, some-ext, first-ext, first_holds}
use Rattle.basics.proofs.Lists.{tabulate-ext}
use Rattle.blocks.specs.Terms.{term_of, term_ok}
use Rattle.blocks.specs.Layout.{positions, rules, goals, label_count, map_at, left_of, right_of, goal_of}
use Rattle.blocks.specs.Validity.{bound_in, Valid}
use Rattle.psvn.specs.Rules.{bound, given, matches, rewritten, applies, step, goal_met, meets}
use Rattle.psvn.specs.Relabelling.{relabel_term, relabel_block, relabel_state}
use Rattle.blocks.proofs.TermCases.{View, label, variable, dash, refused, view, is-label, is-variable, is_dash_lem}
use Rattle.blocks.proofs.TermCases.{is-refused}
use Rattle.blocks.proofs.Accepted.{map_below, left-side, right_side, goal-side, right_bound, side-term}
use Rattle.blocks.proofs.StateLaws.{abstract-count-low}
use Rattle.psvn.proofs.MatchingLaws.{at_position, at_all}
use Rattle.psvn.proofs.Making.{rewritten-at}
use Rattle.psvn.proofs.Relabelled.{positions-relabelled, goals-relabelled, left-relabelled, right-relabelled}
use Rattle.psvn.proofs.Relabelled.{goal-relabelled, relabelled-label}

-- relabelling a byte, by what it stands for
pub relabel-label : (φ : ℕ → ℕ) (t : ℕ) → t < 16 → relabel_term φ t ≡ φ t
relabel-label φ t h = rw (is-label t h)

pub relabel-other : (φ : ℕ → ℕ) (t : ℕ) → 16 ≤ t → relabel_term φ t ≡ t
relabel-other φ t h = go (view t)
  where
    go : View t → relabel_term φ t ≡ t
    go (label l) = absurd (omega arith)
    go (variable a b) = rw (is-variable t a b)
    go (dash e) = rw (is_dash_lem t e)
    go (refused a b) = rw (is-refused t a b)

-- n positions with `count i` labels at position i, and a map φ, the same at all positions, to labels below 16
module _
    (n : ℕ) (count : ℕ → ℕ) (φ : ℕ → ℕ → ℕ)
    (small : (i x : ℕ) → i < n → x < count i → φ i x < 16) (alike : (i j x : ℕ) → φ i x ≡ φ j x) where
  constant-small : (i t : ℕ) → i < n → t < 16 → term_ok (count i) (term_of t) ≡ true → φ i t < 16
  constant-small i t l a ok = small i t l (ltb-true t (count i) (rw (is-label t a) at ok))

  -- a variable stands at the same positions
  pub same-variable :
      (i t v : ℕ) → i < n → 16 ≤ v → term_ok (count i) (term_of t) ≡ true → eqb (relabel_term (φ i) t) v ≡ eqb t v
  same-variable i t v l h ok = go (view t)
    where
      go : View t → eqb (relabel_term (φ i) t) v ≡ eqb t v
      go (label a) =
          let k = constant-small i t l a ok in
          rw (relabel-label (φ i) t a, ne_eqb (φ i t) v (λ e. omega arith), ne_eqb t v (λ e. omega arith))
      go (variable a b) = ap (λ (x : ℕ). eqb x v) (relabel-other (φ i) t a)
      go (dash e) = ap (λ (x : ℕ). eqb x v) (relabel-other (φ i) t (omega arith))
      go (refused a b) = ap (λ (x : ℕ). eqb x v) (relabel-other (φ i) t (omega arith))

  -- a side, its relabelled side, and the states under them
  module _
      (side side' : ℕ → ℕ) (ok : (j : ℕ) → j < n → term_ok (count j) (term_of (side j)) ≡ true)
      (mapped : (j : ℕ) → j < n → side' j ≡ relabel_term (φ j) (side j)) where
    stands : (v : ℕ) → 16 ≤ v → (j : ℕ) → j < n → eqb (side' j) v ≡ eqb (side j) v
    stands v h j l = ap (λ (x : ℕ). eqb x v) (mapped j l) ∙ same-variable j (side j) v l h (ok j l)

    -- the same terms are bound
    pub bound-in-relabelled :
        (i t : ℕ) → i < n → term_ok (count i) (term_of t) ≡ true
        → bound_in n side (term_of t) ≡ true → bound_in n side' (term_of (relabel_term (φ i) t)) ≡ true
    bound-in-relabelled i t l okt h = go (view t)
      where
        go : View t → bound_in n side' (term_of (relabel_term (φ i) t)) ≡ true
        go (label a) = rw (relabel-label (φ i) t a, is-label (φ i t) (constant-small i t l a okt))
        go (variable a b) =
            rw (relabel-other (φ i) t a, is-variable t a b)
            (some-ext (λ j. eqb (side' j) t) (λ j. eqb (side j) t) n (stands t a) ∙ (rw (is-variable t a b) at h))
        go (dash e) = rw (relabel-other (φ i) t (omega arith), is_dash_lem t e)
        go (refused a b) = rw (relabel-other (φ i) t (omega arith), is-refused t a b)

    module _ (s s' : List ℕ) (carried : (k : ℕ) → k < n → get_or s' k 0 ≡ φ k (get_or s k 0)) where
      bound-relabelled :
          (i v : ℕ) → 16 ≤ v → some n (λ j. eqb (side j) v) ≡ true → bound n side' s' v ≡ φ i (bound n side s v)
      unfolding bound
      bound-relabelled i v h b =
          let k = first n (λ j. eqb (side j) v) in
          ap (λ (k : ℕ). get_or s' k 0) (first-ext (λ j. eqb (side' j) v) (λ j. eqb (side j) v) n (stands v h))
          ∙ carried k (first_holds (λ j. eqb (side j) v) n b).0 ∙ alike k i (get_or s k 0)

      -- the label that a term gives
      given-relabelled :
          (i t : ℕ) → i < n → term_ok (count i) (term_of t) ≡ true → bound_in n side (term_of t) ≡ true
          → given n side' s' i (term_of (relabel_term (φ i) t)) ≡ φ i (given n side s i (term_of t))
      given-relabelled i t l okt bd = go (view t)
        where
          go : View t → given n side' s' i (term_of (relabel_term (φ i) t)) ≡ φ i (given n side s i (term_of t))
          go (label a) = rw (relabel-label (φ i) t a, is-label (φ i t) (constant-small i t l a okt), is-label t a)
          go (variable a b) =
              rw (relabel-other (φ i) t a, is-variable t a b) (bound-relabelled i t a (rw (is-variable t a b) at bd))
          go (dash e) = rw (relabel-other (φ i) t (omega arith), is_dash_lem t e) (carried i l)
          go (refused a b) = rw (relabel-other (φ i) t (omega arith), is-refused t a b) (carried i l)

      -- a side's own terms are bound in it
      self-bound : (i : ℕ) → i < n → bound_in n side (term_of (side i)) ≡ true
      self-bound i l = go (view (side i))
        where
          go : View (side i) → bound_in n side (term_of (side i)) ≡ true
          go (label a) = rw (is-label (side i) a)
          go (variable a b) =
              rw (is-variable (side i) a b)
              (some-intro (λ j. eqb (side j) (side i)) n i l (eq-eqb (side i) (side i) refl))
          go (dash e) = rw (is_dash_lem (side i) e)
          go (refused a b) = rw (is-refused (side i) a b)

      matches-relabelled : matches n side s ≡ true → matches n side' s' ≡ true
      matches-relabelled m =
          at_all n side' s' (λ i l.
          carried i l ∙ ap (φ i) (at_position n side s m i l)
          ∙ sym (given-relabelled i (side i) l (ok i l) (self-bound i l))
          ∙ ap (λ (t : ℕ). given n side' s' i (term_of t)) (sym (mapped i l)))

      rewritten-relabelled :
          (right right' : ℕ → ℕ) → ((j : ℕ) → j < n → term_ok (count j) (term_of (right j)) ≡ true)
          → ((j : ℕ) → j < n → bound_in n side (term_of (right j)) ≡ true)
          → ((j : ℕ) → j < n → right' j ≡ relabel_term (φ j) (right j))
          → tabulate n (λ i. φ i (get_or (rewritten n side right s) i 0)) ≡ rewritten n side' right' s'
      unfolding rewritten
      rewritten-relabelled right right' okr bd q =
          tabulate-ext n (λ i. φ i (get_or (rewritten n side right s) i 0))
          (λ i. given n side' s' i (term_of (right' i)))
          (λ k l.
          ap (φ k) (rewritten-at n side right s k l)
          ∙ sym (given-relabelled k (right k) l (okr k l) (bd k l))
          ∙ ap (λ (t : ℕ). given n side' s' k (term_of t)) (sym (q k l)))

-- all positions have one map
pub map-alike : (b : List ℕ) (i j x : ℕ) → map_at b i x ≡ map_at b j x
unfolding map_at
map-alike b i j x = refl

-- a valid block
module _ (b : List ℕ) (v : Valid b) where
  pub map-small : (i x : ℕ) → i < positions b → x < label_count b i → map_at b i x < 16
  map-small i x l m = omega (arith, map_below b v i x m, abstract-count-low b v.sized.headed i)

  pub applies-relabelled :
      (r : ℕ) → r < rules b → (s : List ℕ) → applies b r s ≡ true → applies (relabel_block b) r (relabel_state b s)
      ≡ true
  unfolding applies
  applies-relabelled r lr s h =
      rw (positions-relabelled b)
      (matches-relabelled (positions b) (label_count b) (map_at b) map-small (map-alike b) (left_of b r)
      (left_of (relabel_block b) r)
      (side-term b (left_of b r) (left-side b v r lr)) (left-relabelled b r lr) s (relabel_state b s)
      (relabelled-label b s) h)

  pub step-relabelled :
      (r : ℕ) → r < rules b → (s : List ℕ) → relabel_state b (step b r s) ≡ step (relabel_block b) r (relabel_state b s)
  unfolding step relabel_state
  step-relabelled r lr s =
      rw (positions-relabelled b)
      (rewritten-relabelled (positions b) (label_count b) (map_at b) map-small (map-alike b) (left_of b r)
      (left_of (relabel_block b) r)
      (side-term b (left_of b r) (left-side b v r lr)) (left-relabelled b r lr) s (relabel_state b s)
      (relabelled-label b s)
      (right_of b r) (right_of (relabel_block b) r) (side-term b (right_of b r) (right_side b v r lr))
      (right_bound b v r lr) (right-relabelled b r lr))

  goal-met-relabelled :
      (g : ℕ) → g < goals b → (s : List ℕ) → goal_met b g s ≡ true → goal_met (relabel_block b) g (relabel_state b s)
      ≡ true
  unfolding goal_met
  goal-met-relabelled g lg s h =
      rw (positions-relabelled b)
      (matches-relabelled (positions b) (label_count b) (map_at b) map-small (map-alike b) (goal_of b g)
      (goal_of (relabel_block b) g)
      (side-term b (goal_of b g) (goal-side b v g lg)) (goal-relabelled b g lg) s (relabel_state b s)
      (relabelled-label b s) h)

  pub meets-relabelled : (s : List ℕ) → meets b s ≡ true → meets (relabel_block b) (relabel_state b s) ≡ true
  unfolding meets
  meets-relabelled s h =
      let k = first_holds (λ g. goal_met b g s) (goals b) h in
      some-intro (λ g. goal_met (relabel_block b) g (relabel_state b s)) (goals (relabel_block b)) _
      (omega (arith, k.0, goals-relabelled b))
      (goal-met-relabelled _ k.0 s k.1)
