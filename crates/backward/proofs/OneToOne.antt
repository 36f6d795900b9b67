-- A rule that is reversible by form takes no two states to one (`reversible-one`, `one-predecessor`); with two labels
-- or more, any other rule does (`not-reversible`), so that the form tells exactly which rules are one to one
-- (`reversible_exactly`). With one label there is one state only, and every rule is one to one (`one_label`). The
-- starred exercises on reversible rules rest on this.
use mathlib.Core.Path.{◌≡◌, refl, sym, ap, ◌∙◌}
use mathlib.Core.Logic.{◌↔◌}
use mathlib.Core.Bool.{Bool, true, false, cond, ◌||◌}
use mathlib.Core.List.{List}
use Prim.Native.Nat.{ℕ, ◌≤◌, ◌<◌}
use native.Mathlib.Omega.{arith}
use lib.Dec.{eqb, ltb}
use lib.ListN.{get_or}
use borrow.Author.Tests.{ltb-true, ltb-false, lt-ltb, le-ltb, eq-eqb, ne_eqb}
use Rattle.basics.specs.Bounded.{all, some, first}
use Rattle.basics.specs.Lists.{tabulate}
use Rattle.basics.proofs.Truth.{true-false}
use Rattle.basics.proofs.Bounded.{all-at, all-fails, some-false}
use Rattle.basics.proofs.Lists.{length-tabulate, get_or-tabulate, tabulate-ext}
use Rattle.basics.proofs.Lists.{same-list}
use Rattle.blocks.specs.Terms.{term_of, is_dash}
use Rattle.blocks.specs.Layout.{positions, labels, rules, label_count, left_of, right_of}
use Rattle.blocks.specs.States.{labelled, state_ok}
use Rattle.blocks.specs.Validity.{Valid}
use Rattle.blocks.proofs.TermCases.{View, label, variable, dash, refused, view, is-label, is-variable, is_dash_lem}
use Rattle.blocks.proofs.TermCases.{is-refused, dash-byte}
use Rattle.blocks.proofs.StateLaws.{labelled-intro, state-length, state-label}
use Rattle.psvn.specs.Rules.{bound, given, rewritten, applies, step, leads}
use Rattle.psvn.specs.Meaning.{Matched}
use Rattle.psvn.proofs.MatchingLaws.{matching}
use Rattle.psvn.proofs.Stepping.{step-length}
use Rattle.backward.specs.Reversible.{shows, kept_term, form_at, reversible, OneToOne}
use Rattle.backward.specs.Choices.{choice}
use Rattle.backward.proofs.Choosing.{Keeps}
use Rattle.backward.proofs.Leading.{leads_by, leads_by_lem, leads-exactly}
use Rattle.backward.proofs.ChoiceCases.{Case, kept, constant, shown, again, new, other, case}
use Rattle.backward.proofs.Keeping.{shows-right, shows_left, leads_keeps, at-kept, at_constant, at-shown, Proper}
use Rattle.backward.proofs.Keeping.{bound-stands, valid-proper}

-- the form at one position, by its terms
module _ (n : ℕ) (left right : ℕ → ℕ) (i : ℕ) where
  pub form-kept : is_dash (term_of (right i)) ≡ true → form_at n left right i ≡ true
  form-kept e = ap (λ (t : Bool). t || kept_term n left right (term_of (left i))) e

  pub form-term : is_dash (term_of (right i)) ≡ false → form_at n left right i
      ≡ kept_term n left right (term_of (left i))
  form-term e = ap (λ (t : Bool). t || kept_term n left right (term_of (left i))) e

  form-dash : right i ≡ 255 → form_at n left right i ≡ true
  form-dash h = form-kept (dash-byte (right i) ∙ eq-eqb (right i) 255 h)

  module _ (h : right i ≡ 255 → ⊥) where
    no-dash : form_at n left right i ≡ kept_term n left right (term_of (left i))
    no-dash = form-term (dash-byte (right i) ∙ ne_eqb (right i) 255 h)

    form-label : left i < 16 → form_at n left right i ≡ true
    form-label a = no-dash ∙ ap (kept_term n left right) (is-label (left i) a)

    form-variable : 16 ≤ left i → left i < 32 → form_at n left right i ≡ some n (shows left right (left i))
    form-variable a b = no-dash ∙ ap (kept_term n left right) (is-variable (left i) a b)

    form-other : 32 ≤ left i → form_at n left right i ≡ false
    form-other a = no-dash ∙ go (view (left i))
      where
        go : View (left i) → kept_term n left right (term_of (left i)) ≡ false
        go (label x) = absurd (omega arith)
        go (variable x y) = absurd (omega arith)
        go (dash e) = ap (kept_term n left right) (is_dash_lem (left i) e)
        go (refused x y) = ap (kept_term n left right) (is-refused (left i) x y)

-- reversible by form: s tells each label of a state that the rule takes to it
module _
    (n : ℕ) (left right : ℕ → ℕ) (form : all n (form_at n left right) ≡ true) (s u v : List ℕ)
    (hu : leads_by n left right u s ≡ true) (hv : leads_by n left right v s ≡ true) where
  keeps : Keeps n (choice n left right s) u
  keeps = leads_keeps n left right s u hu

  form-tells : (i : ℕ) → i < n → get_or u i 0 ≡ get_or v i 0
  form-tells i l = go (case n left right i)
    where
      f : form_at n left right i ≡ true
      f = all-at (form_at n left right) n form i l

      go : Case n left right i → get_or u i 0 ≡ get_or v i 0
      go (kept e) = at-kept n left right s v hv u keeps i l e
      go (constant a b) = at_constant n left right s v hv u keeps i l b
      go (shown a b c d) = at-shown n left right s v hv u keeps i l b c d
      go (again a b c d e) = absurd (true-false f (form-variable n left right i a b c ∙ d))
      go (new a b c d e) = absurd (true-false f (form-variable n left right i a b c ∙ d))
      go (other a b) = absurd (true-false f (form-other n left right i a b))

-- the positions that hold the label lost at position i: those of its variable, or position i alone
abbrev moves : (ℕ → ℕ) → ℕ → ℕ → Bool
moves left i k = cond (ltb (left i) 32) (eqb (left k) (left i)) (eqb k i)

-- a state that matches the left side, with the label x at those positions and 0 at the other ones that are free
abbrev twin_label : (ℕ → ℕ) → ℕ → ℕ → ℕ → ℕ
twin_label left i x k = cond (ltb (left k) 16) (left k) (cond (moves left i k) x 0)

unfoldable twin : ℕ → (ℕ → ℕ) → ℕ → ℕ → List ℕ
twin n left i x = tabulate n (twin_label left i x)

-- not reversible by form: the label at position i is lost
module _
    (n : ℕ) (count left right : ℕ → ℕ) (proper : Proper n count left right) (two : (k : ℕ) → 2 ≤ count k)
    (i : ℕ) (li : i < n) (lost : form_at n left right i ≡ false) where
  right-here : right i ≡ 255 → ⊥
  right-here e = true-false (form-dash n left right i e) lost

  left_here : 16 ≤ left i
  left_here =
      let a : ¬ (left i < 16) = λ a. true-false (form-label n left right i right-here a) lost in
      omega arith

  not-shown : left i < 32 → (k : ℕ) → k < n → shows left right (left i) k ≡ true → ⊥
  not-shown b k l h =
      true-false h
      (some-false (shows left right (left i)) n (sym (form-variable n left right i right-here left_here b) ∙ lost) k l)

  twin-at : (x k : ℕ) → k < n → get_or (twin n left i x) k 0 ≡ twin_label left i x k
  unfolding twin
  twin-at x k l = get_or-tabulate n (twin_label left i x) k l

  twin-here : (x : ℕ) → get_or (twin n left i x) i 0 ≡ x
  twin-here x = twin-at x i li ∙ go (ltb (left i) 32) refl
    where
      h : ltb (left i) 16 ≡ false
      h = le-ltb (left i) 16 left_here

      go : (t : Bool) → ltb (left i) 32 ≡ t → twin_label left i x i ≡ x
      go true e = simp (h, e, eq-eqb (left i) (left i) refl)
      go false e = simp (h, e, eq-eqb i i refl)

  -- the two for x = 0 and x = 1 are states that match
  twin-below : (x k : ℕ) → x < 2 → k < n → twin_label left i x k < count k
  twin-below x k h l = go (ltb (left k) 16) refl (moves left i k) refl
    where
      go : (t : Bool) → ltb (left k) 16 ≡ t → (m : Bool) → moves left i k ≡ m → twin_label left i x k < count k
      go true e m d = rw e (proper.left_below k l (ltb-true _ _ e))
      go false e true d = rw (e, d) (omega (arith, two k))
      go false e false d = rw (e, d) (omega (arith, two k))

  twin-state : (x : ℕ) → x < 2 → labelled n count (twin n left i x) ≡ true
  unfolding twin
  twin-state x h =
      labelled-intro n count (twin n left i x) (length-tabulate n (twin_label left i x)) (λ k l.
      rw (twin-at x k l) (twin-below x k h l))

  twin-matched : (x : ℕ) → Matched n left (twin n left i x)
  twin-matched x =
      record {
        constant = λ k l a. twin-at x k l ∙ simp (lt-ltb (left k) 16 a);
        same = λ k j lk lj a b e. twin-at x k lk ∙ go k j a b e (ltb (left i) 32) refl ∙ sym (twin-at x j lj);
      }
    where
      go :
          (k j : ℕ) → 16 ≤ left k → left k < 32 → left j ≡ left k → (t : Bool) → ltb (left i) 32 ≡ t
          → twin_label left i x k ≡ twin_label left i x j
      go k j a b e true d = simp (d, e)
      go k j a b e false d =
          let m : 32 ≤ left i = ltb-false _ _ d in
          let nk : k ≡ i → ⊥ = λ z. (let y = ap left z in omega arith) in
          let nj : j ≡ i → ⊥ = λ z. (let y = ap left z in omega arith) in
          simp (d, e, ne_eqb k i nk, ne_eqb j i nj)

  -- they have the same image: they agree at each position that
  -- does not move, and the new state shows only such positions
  still :
      (k : ℕ) → k < n → (left i < 32 → left k ≡ left i → ⊥) → (32 ≤ left i → k ≡ i → ⊥)
      → get_or (twin n left i 0) k 0 ≡ get_or (twin n left i 1) k 0
  still k l a b = twin-at 0 k l ∙ go (ltb (left i) 32) refl ∙ sym (twin-at 1 k l)
    where
      go : (t : Bool) → ltb (left i) 32 ≡ t → twin_label left i 0 k ≡ twin_label left i 1 k
      go true e = simp (e, ne_eqb (left k) (left i) (a (ltb-true _ _ e)))
      go false e = simp (e, ne_eqb k i (b (ltb-false _ _ e)))

  image-at :
      (k : ℕ) → k < n
      → given n left (twin n left i 0) k (term_of (right k)) ≡ given n left (twin n left i 1) k (term_of (right k))
  unfolding bound
  image-at k l = go (view (right k))
    where
      kept_at : right k ≡ 255 → get_or (twin n left i 0) k 0 ≡ get_or (twin n left i 1) k 0
      kept_at e =
          still k l (λ b z. not-shown b k l (shows_left left right (left i) k z e))
          (λ b z. right-here (ap right (sym z) ∙ e))

      go :
          View (right k)
          → given n left (twin n left i 0) k (term_of (right k)) ≡ given n left (twin n left i 1) k (term_of (right k))
      go (label a) = rw (is-label (right k) a)
      go (variable a b) =
          let f = first n (λ j. eqb (left j) (right k)) in
          let h = bound-stands n count left right proper k l a b in
          let e : left f ≡ right k = h.1 in
          rw (is-variable (right k) a b)
          (still f h.0 (λ c z. not-shown c k l (shows-right left right (left i) k (sym e ∙ z)))
          (λ c z. (let y = ap left z in omega arith)))
      go (dash e) = rw (is_dash_lem (right k) e) (kept_at e)
      go (refused a b) = absurd (b (proper.right_dash k l a))

  twin-image : rewritten n left right (twin n left i 0) ≡ rewritten n left right (twin n left i 1)
  unfolding rewritten
  twin-image =
      tabulate-ext n (λ k. given n left (twin n left i 0) k (term_of (right k)))
      (λ k. given n left (twin n left i 1) k (term_of (right k))) image-at

  twin-different : twin n left i 0 ≡ twin n left i 1 → ⊥
  twin-different e =
      let z : ◌≡◌ {A = ℕ} 0 1 = sym (twin-here 0) ∙ ap (λ (t : List ℕ). get_or t i 0) e ∙ twin-here 1 in
      omega arith

-- two different states with the same image under rule r
pub record Twins (b : List ℕ) (r : ℕ) : Type 0 where
  pub u : List ℕ
  pub v : List ℕ
  pub u_state : state_ok b u ≡ true
  pub v_state : state_ok b v ≡ true
  pub u_applies : applies b r u ≡ true
  pub v_applies : applies b r v ≡ true
  pub image : step b r u ≡ step b r v
  pub different : u ≡ v → ⊥

module _ (b : List ℕ) (r : ℕ) where
  same-state :
      (u v : List ℕ) → state_ok b u ≡ true → state_ok b v ≡ true
      → ((k : ℕ) → k < positions b → get_or u k 0 ≡ get_or v k 0) → u ≡ v
  same-state u v uo vo =
      same-list (positions b) u v (state-length b u uo) (state-length b v vo)

  -- a reversible rule takes one state at most to s
  pub one-predecessor :
      reversible b r ≡ true → (s u v : List ℕ) → state_ok b u ≡ true → state_ok b v ≡ true
      → leads b r u s ≡ true → leads b r v s ≡ true → u ≡ v
  unfolding reversible
  one-predecessor h s u v uo vo lu lv =
      same-state u v uo vo
      (form-tells (positions b) (left_of b r) (right_of b r) h s u v (sym (leads_by_lem b r u s) ∙ lu)
      (sym (leads_by_lem b r v s) ∙ lv))

  pub reversible-one : reversible b r ≡ true → OneToOne b r
  reversible-one h u v uo vo au av e =
      let s = step b r v in
      let long = step-length b r v in
      one-predecessor h s u v uo vo ((leads-exactly b r u s long).1 (au, e)) ((leads-exactly b r v s long).1 (av, refl))

  pub one_label : labels b ≡ 1 → OneToOne b r
  unfolding label_count
  one_label e u v uo vo au av s =
      same-state u v uo vo (λ k l.
      let x = state-label b u uo k l in
      let y = state-label b v vo k l in
      omega arith)

  module _ (va : Valid b) (lr : r < rules b) (two : 2 ≤ labels b) where
    pub not-reversible : reversible b r ≡ false → Twins b r
    unfolding reversible applies step label_count
    not-reversible h =
        let n = positions b in
        let left = left_of b r in
        let right = right_of b r in
        let count = label_count b in
        let k = all-fails (form_at n left right) n h in
        let ok = valid-proper b va r lr in
        let t : (k : ℕ) → 2 ≤ label_count b k = λ k. two in
        record {
          u = twin n left k.0 0;
          v = twin n left k.0 1;
          u_state = twin-state n count left right ok t k.0 k.1 k.2 0 (omega arith);
          v_state = twin-state n count left right ok t k.0 k.1 k.2 1 (omega arith);
          u_applies = matching n left _ (twin-matched n count left right ok t k.0 k.1 k.2 0);
          v_applies = matching n left _ (twin-matched n count left right ok t k.0 k.1 k.2 1);
          image = twin-image n count left right ok t k.0 k.1 k.2;
          different = twin-different n count left right ok t k.0 k.1 k.2;
        }

    pub reversible_exactly : (reversible b r ≡ true) ↔ OneToOne b r
    reversible_exactly = (reversible-one, λ one. go one (reversible b r) refl)
      where
        go : OneToOne b r → (t : Bool) → reversible b r ≡ t → reversible b r ≡ true
        go one true e = e
        go one false e =
            let t = not-reversible e in
            absurd (t.different (one t.u t.v t.u_state t.v_state t.u_applies t.v_applies t.image))
