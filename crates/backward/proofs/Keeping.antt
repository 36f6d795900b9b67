-- Each state that a rule takes to s keeps to its choices (`leads_keeps`); where there is such a state, each state that
-- keeps to its choices is one (`keeps-leads`); and a choice allows labels below the counts only (`choice-below`). So
-- the next predecessor is the next state that keeps to its choices, if that is one at all.
use mathlib.Core.Path.{◌≡◌, refl, sym, ap, ◌∙◌}
use mathlib.Core.Logic.{◌⊎◌, inl, inr, ⊎_elim}
use mathlib.Core.Bool.{Bool, true, false, ◌&&◌}
use mathlib.Core.List.{List}
use Prim.Native.Nat.{ℕ, ◌≤◌, ◌<◌}
use native.Mathlib.Omega.{arith}
use lib.Dec.{eqb}
use lib.ListN.{get_or}
use borrow.Author.Tests.{eqb-true, eqb-false, ltb-true, eq-eqb}
use Rattle.basics.specs.Bounded.{some, first}
use Rattle.basics.proofs.Truth.{true-false, and-true}
use Rattle.basics.proofs.Bounded.{some-intro, some-false, first_holds, first-least}
use Rattle.blocks.specs.Terms.{term_of, term_ok, is_dash}
use Rattle.blocks.specs.Layout.{positions, rules, label_count, left_of, right_of}
use Rattle.blocks.specs.Validity.{bound_in, Valid}
use Rattle.blocks.proofs.TermCases.{View, label, variable, dash, refused, view, is-label, is-variable, is-refused}
use Rattle.blocks.proofs.TermCases.{dash-byte}
use Rattle.blocks.proofs.Accepted.{left-side, right_side, right_bound, side-term}
use Rattle.blocks.proofs.StateLaws.{some_label}
use Rattle.psvn.specs.Meaning.{Matched}
use Rattle.psvn.proofs.MatchingLaws.{matched}
use Rattle.psvn.proofs.Stepping.{count-alike}
use Rattle.backward.specs.Reversible.{shows}
use Rattle.backward.specs.Choices.{Choice, only, choice, least_of, keeps_of}
use Rattle.std.proofs.Common.{None}
use Rattle.backward.proofs.Choosing.{Keeps}
use Rattle.backward.proofs.Leading.{leads_by, leads-matches, made, making}
use Rattle.backward.proofs.ChoiceCases.{Case, kept, constant, shown, again, new, other, case, choice-dash}
use Rattle.backward.proofs.ChoiceCases.{choice-label, choice-shown, choice-again, choice-new, choice-other}

keeps-only : {w : Choice} (y x : ℕ) → w ≡ only y → x ≡ y → keeps_of w x ≡ true
keeps-only y x e h = rw e (eq-eqb x y h)

keeps-any : {w : Choice} (x : ℕ) → w ≡ None → keeps_of w x ≡ true
keeps-any x e = rw e

only_keeps : {w : Choice} (y x : ℕ) → w ≡ only y → keeps_of w x ≡ true → x ≡ y
only_keeps y x e h = eqb-true x y (rw e at h)

-- where the new state shows a variable
shows-cases :
    (left right : ℕ → ℕ) (v j : ℕ) → shows left right v j ≡ true → (right j ≡ v) ⊎ ((left j ≡ v) × (right j ≡ 255))
shows-cases left right v j h = go (eqb (right j) v) refl
  where
    go : (t : Bool) → eqb (right j) v ≡ t → (right j ≡ v) ⊎ ((left j ≡ v) × (right j ≡ 255))
    go true e = inl (eqb-true _ _ e)
    go false e =
        let k : (eqb (left j) v && is_dash (term_of (right j))) ≡ true = rw e at h in
        let m = and-true (eqb (left j) v) (is_dash (term_of (right j))) k in
        inr (eqb-true _ _ m.0, eqb-true (right j) 255 (sym (dash-byte (right j)) ∙ m.1))

pub shows-right : (left right : ℕ → ℕ) (v j : ℕ) → right j ≡ v → shows left right v j ≡ true
shows-right left right v j e = rw (eq-eqb (right j) v e)

pub shows_left : (left right : ℕ → ℕ) (v j : ℕ) → left j ≡ v → right j ≡ 255 → shows left right v j ≡ true
shows_left left right v j e d = go (eqb (right j) v) refl
  where
    go : (t : Bool) → eqb (right j) v ≡ t → shows left right v j ≡ true
    go true h = rw h
    go false h = rw (h, eq-eqb (left j) v e, dash-byte (right j), eq-eqb (right j) 255 d)

-- the first position of the variable that stands at position i
module _ (n : ℕ) (left : ℕ → ℕ) (i : ℕ) (l : i < n) where
  abbrev home : ℕ
  home = first n (λ j. eqb (left j) (left i))

  home-stands : (home < n) × (left home ≡ left i)
  home-stands =
      let h =
      first_holds (λ j. eqb (left j) (left i)) n
      (some-intro (λ j. eqb (left j) (left i)) n i l (eq-eqb (left i) (left i) refl)) in
      (h.0, eqb-true _ _ h.1)

  home-first : home ≤ i
  home-first =
      let a : ¬ (i < home) =
      λ k. true-false (eq-eqb (left i) (left i) refl) (first-least (λ j. eqb (left j) (left i)) n i k) in
      omega arith

-- each state that the rule takes to s keeps to its choices
module _ (n : ℕ) (left right : ℕ → ℕ) (s u : List ℕ) (h : leads_by n left right u s ≡ true) where
  fits : Matched n left u
  fits = matched n left u (leads-matches n left right u s h)

  shown-label :
      (i : ℕ) → i < n → 16 ≤ left i → left i < 32 → some n (shows left right (left i)) ≡ true
      → get_or u i 0 ≡ get_or s (first n (shows left right (left i))) 0
  shown-label i l a b d =
      let w = made n left right u s h in
      let j = first n (shows left right (left i)) in
      let f = first_holds (shows left right (left i)) n d in
      let g = home-stands n left i l in
      ⊎_elim
      (λ e.
      fits.same i (home n left i l) l g.0 a b g.1
      ∙ ap (λ (v : ℕ). get_or u (first n (λ j. eqb (left j) v)) 0) (sym e)
      ∙ sym (w.variable_at j f.0 (omega arith) (omega arith)))
      (λ e. fits.same i j l f.0 a b e.0 ∙ sym (w.other_at j f.0 (omega (arith, e.1))))
      (shows-cases left right (left i) j f.1)

  pub leads_keeps : Keeps n (choice n left right s) u
  leads_keeps i l = go (case n left right i)
    where
      go : Case n left right i → keeps_of (choice n left right s u i) (get_or u i 0) ≡ true
      go (kept e) =
          keeps-only (get_or s i 0) (get_or u i 0) (choice-dash n left right s u i e)
          (sym ((made n left right u s h).other_at i l (omega arith)))
      go (constant a b) = keeps-only (left i) (get_or u i 0) (choice-label n left right s u i a b) (fits.constant i l b)
      go (shown a b c d) =
          keeps-only (get_or s (first n (shows left right (left i))) 0) (get_or u i 0)
          (choice-shown n left right s u i a b c d) (shown-label i l b c d)
      go (again a b c d e) =
          let g = home-stands n left i l in
          keeps-only (get_or u (home n left i l) 0) (get_or u i 0) (choice-again n left right s u i a b c d e)
          (fits.same i (home n left i l) l g.0 b c g.1)
      go (new a b c d e) = keeps-any (get_or u i 0) (choice-new n left right s u i a b c d e)
      go (other a b) = keeps-any (get_or u i 0) (choice-other n left right s u i a b)

-- what an accepted block says of a rule
pub record Proper (n : ℕ) (count : ℕ → ℕ) (left right : ℕ → ℕ) : Type 0 where
  pub some_label : (i : ℕ) → 0 < count i
  pub alike : (i j : ℕ) → count i ≡ count j
  pub left_below : (i : ℕ) → i < n → left i < 16 → left i < count i
  pub right_dash : (i : ℕ) → i < n → 32 ≤ right i → right i ≡ 255
  pub right_bound :
      (i : ℕ) → i < n → 16 ≤ right i → right i < 32 → some n (λ j. eqb (left j) (right i)) ≡ true

-- a variable on the right: its first position on the left
module _ (n : ℕ) (count left right : ℕ → ℕ) (proper : Proper n count left right) where
  pub bound-stands :
      (i : ℕ) → i < n → 16 ≤ right i → right i < 32
      → (first n (λ j. eqb (left j) (right i)) < n) × (left (first n (λ j. eqb (left j) (right i))) ≡ right i)
  bound-stands i l a b =
      let g = first_holds (λ j. eqb (left j) (right i)) n (proper.right_bound i l a b) in
      (g.0, eqb-true _ _ g.1)

-- where there is a state w that the rule takes to s, each state u that keeps to its choices agrees with w where s tells
-- the label, and the rule takes it to s too
module _
    (n : ℕ) (left right : ℕ → ℕ) (s w : List ℕ) (h : leads_by n left right w s ≡ true) (u : List ℕ)
    (keeps : Keeps n (choice n left right s) u) where
  alike-only :
      (i y : ℕ) → i < n → choice n left right s u i ≡ only y → choice n left right s w i ≡ only y
      → get_or u i 0 ≡ get_or w i 0
  alike-only i y l a b =
      only_keeps y (get_or u i 0) a (keeps i l)
      ∙ sym (only_keeps y (get_or w i 0) b (leads_keeps n left right s w h i l))

  pub at-kept : (i : ℕ) → i < n → right i ≡ 255 → get_or u i 0 ≡ get_or w i 0
  at-kept i l e = alike-only i (get_or s i 0) l (choice-dash n left right s u i e) (choice-dash n left right s w i e)

  pub at_constant : (i : ℕ) → i < n → left i < 16 → get_or u i 0 ≡ get_or w i 0
  at_constant i l a = go (eqb (right i) 255) refl
    where
      go : (t : Bool) → eqb (right i) 255 ≡ t → get_or u i 0 ≡ get_or w i 0
      go true e = at-kept i l (eqb-true _ _ e)
      go false e =
          alike-only i (left i) l (choice-label n left right s u i (eqb-false _ _ e) a)
          (choice-label n left right s w i (eqb-false _ _ e) a)

  pub at-shown :
      (i : ℕ) → i < n → 16 ≤ left i → left i < 32 → some n (shows left right (left i)) ≡ true → get_or u i 0
      ≡ get_or w i 0
  at-shown i l a b d = go (eqb (right i) 255) refl
    where
      go : (t : Bool) → eqb (right i) 255 ≡ t → get_or u i 0 ≡ get_or w i 0
      go true e = at-kept i l (eqb-true _ _ e)
      go false e =
          alike-only i (get_or s (first n (shows left right (left i))) 0) l
          (choice-shown n left right s u i (eqb-false _ _ e) a b d)
          (choice-shown n left right s w i (eqb-false _ _ e) a b d)

  -- a variable that is not shown: each of its positions has the label of the first
  at_home :
      (i : ℕ) (l : i < n) → 16 ≤ left i → left i < 32 → some n (shows left right (left i)) ≡ false
      → get_or u i 0 ≡ get_or u (home n left i l) 0
  at_home i l a b d = go (case n left right i)
    where
      go : Case n left right i → get_or u i 0 ≡ get_or u (home n left i l) 0
      go (kept e) =
          absurd (true-false (shows_left left right (left i) i refl e) (some-false (shows left right (left i)) n d i l))
      go (constant x y) = absurd (omega arith)
      go (shown x y z t) = absurd (true-false t d)
      go (again x y z t e) =
          only_keeps (get_or u (home n left i l) 0) (get_or u i 0) (choice-again n left right s u i x y z t e)
          (keeps i l)
      go (new x y z t e) =
          let m = home-first n left i l in
          let q : i ≡ home n left i l = omega arith in
          ap (λ (k : ℕ). get_or u k 0) q
      go (other x y) = absurd (omega arith)

  same-variable :
      (i j : ℕ) → i < n → j < n → 16 ≤ left i → left i < 32 → left j ≡ left i → get_or u i 0 ≡ get_or u j 0
  same-variable i j li lj a b e = go (some n (shows left right (left i))) refl
    where
      m : Matched n left w
      m = matched n left w (leads-matches n left right w s h)

      shown-too : {t : Bool} → some n (shows left right (left i)) ≡ t → some n (shows left right (left j)) ≡ t
      shown-too d = ap (λ (v : ℕ). some n (shows left right v)) e ∙ d

      go : (t : Bool) → some n (shows left right (left i)) ≡ t → get_or u i 0 ≡ get_or u j 0
      go true d =
          at-shown i li a b d ∙ m.same i j li lj a b e
          ∙ sym (at-shown j lj (omega arith) (omega arith) (shown-too d))
      go false d =
          at_home i li a b d ∙ ap (λ (v : ℕ). get_or u (first n (λ j. eqb (left j) v)) 0) (sym e)
          ∙ sym (at_home j lj (omega arith) (omega arith) (shown-too d))

  module _ (count : ℕ → ℕ) (proper : Proper n count left right) where
    variable-label :
        (i : ℕ) → i < n → 16 ≤ right i → right i < 32 → get_or s i 0
        ≡ get_or u (first n (λ j. eqb (left j) (right i))) 0
    variable-label i l a b =
        let f = first n (λ j. eqb (left j) (right i)) in
        let g = bound-stands n count left right proper i l a b in
        let e : left f ≡ right i = g.1 in
        let d : some n (shows left right (left f)) ≡ true =
        some-intro (shows left right (left f)) n i l (shows-right left right (left f) i (sym e)) in
        (made n left right w s h).variable_at i l a b ∙ sym (at-shown f g.0 (omega arith) (omega arith) d)

    pub keeps-leads : leads_by n left right u s ≡ true
    keeps-leads =
        making n left right u s
        (record {
          constant = λ i l a. at_constant i l a ∙ (matched n left w (leads-matches n left right w s h)).constant i l a;
          same = same-variable;
        })
        (record {
          label_at = (made n left right w s h).label_at;
          variable_at = variable-label;
          other_at =
              λ i l a.
              sym (only_keeps (get_or s i 0) (get_or u i 0) (choice-dash n left right s u i (proper.right_dash i l a))
              (keeps i l));
        })

-- the choices allow labels below the counts
module _
    (n : ℕ) (count left right : ℕ → ℕ) (proper : Proper n count left right) (s u : List ℕ)
    (state : (i : ℕ) → i < n → get_or s i 0 < count i) where
  below-only : {w : Choice} (y i : ℕ) → w ≡ only y → y < count i → least_of w < count i
  below-only y i e h = rw e h

  below-any : {w : Choice} (i : ℕ) → w ≡ None → least_of w < count i
  below-any i e = rw e (proper.some_label i)

  pub choice-below :
      (i : ℕ) → i < n → ((k : ℕ) → k < i → get_or u k 0 < count k) → least_of (choice n left right s u i) < count i
  choice-below i l h = go (case n left right i)
    where
      go : Case n left right i → least_of (choice n left right s u i) < count i
      go (kept e) = below-only (get_or s i 0) i (choice-dash n left right s u i e) (state i l)
      go (constant a b) = below-only (left i) i (choice-label n left right s u i a b) (proper.left_below i l b)
      go (shown a b c d) =
          let j = first n (shows left right (left i)) in
          below-only (get_or s j 0) i (choice-shown n left right s u i a b c d)
          (rw (proper.alike i j) (state j (first_holds (shows left right (left i)) n d).0))
      go (again a b c d e) =
          let j = first n (λ j. eqb (left j) (left i)) in
          below-only (get_or u j 0) i (choice-again n left right s u i a b c d e) (rw (proper.alike i j) (h j e))
      go (new a b c d e) = below-any i (choice-new n left right s u i a b c d e)
      go (other a b) = below-any i (choice-other n left right s u i a b)

-- an accepted block's rules are proper
module _ (b : List ℕ) (v : Valid b) (r : ℕ) (lr : r < rules b) where
  pub valid-proper : Proper (positions b) (label_count b) (left_of b r) (right_of b r)
  valid-proper =
      record {
        some_label = some_label b v.sized.headed;
        alike = count-alike b;
        left_below = λ i l a.
            ltb-true _ _
            (sym (ap (term_ok (label_count b i)) (is-label (left_of b r i) a))
            ∙ side-term b (left_of b r) (left-side b v r lr) i l);
        right_dash = λ i l a. go i a (side-term b (right_of b r) (right_side b v r lr) i l) (view (right_of b r i));
        right_bound = λ i l a c.
            sym (ap (bound_in (positions b) (left_of b r)) (is-variable (right_of b r i) a c))
            ∙ right_bound b v r lr i l;
      }
    where
      go :
          (i : ℕ) → 32 ≤ right_of b r i → term_ok (label_count b i) (term_of (right_of b r i)) ≡ true
          → View (right_of b r i) → right_of b r i ≡ 255
      go i a t (label x) = absurd (omega arith)
      go i a t (variable x y) = absurd (omega arith)
      go i a t (dash e) = e
      go i a t (refused x y) = absurd (true-false t (ap (term_ok (label_count b i)) (is-refused (right_of b r i) x y)))
