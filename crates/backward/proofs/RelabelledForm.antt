-- Relabelling keeps reversible by form (`reversible-relabelled`): constants stay constants, and variables and dashes
-- stay where they are. So the answer for a rule of the relabelled exercise is that for the rule itself.
use mathlib.Core.Path.{◌≡◌, ap, ap₂, sym, ◌∙◌}
use mathlib.Core.Bool.{true, ◌&&◌, ◌||◌}
use mathlib.Core.List.{List}
use Prim.Native.Nat.{ℕ, ◌≤◌, ◌<◌}
use native.Mathlib.Omega.{arith}
use lib.Dec.{eqb}
use borrow.Author.Tests.{ltb-true}
use Rattle.basics.proofs.Bounded.{all-ext, some-ext}
use Rattle.blocks.specs.Terms.{term_of, is_dash}
use Rattle.blocks.specs.Layout.{positions, rules, label_count, map_at, left_of, right_of}
use Rattle.blocks.specs.Validity.{side_ok, Valid}
use Rattle.blocks.proofs.TermCases.{View, label, variable, dash, refused, view, is-label, is-variable, is_dash_lem}
use Rattle.blocks.proofs.TermCases.{is-refused, dash-byte}
use Rattle.blocks.proofs.Accepted.{left-side, right_side, side-term}
use Rattle.psvn.specs.Relabelling.{relabel_term, relabel_block}
use Rattle.psvn.proofs.Relabelled.{positions-relabelled, left-relabelled, right-relabelled}
use Rattle.psvn.proofs.Homomorphism.{relabel-label, relabel-other, same-variable, map-small, map-alike}
use Rattle.backward.specs.Reversible.{shows, kept_term, form_at, reversible}

module _ (b : List ℕ) (v : Valid b) where
  -- a side and the relabelled side: each variable, and the dash, stand at the same positions of both
  abbrev Image : (ℕ → ℕ) → (ℕ → ℕ) → Type 0
  Image side side' = (i : ℕ) → i < positions b → side' i ≡ relabel_term (map_at b i) (side i)

  stands :
      (side side' : ℕ → ℕ) → side_ok b side ≡ true → Image side side'
      → (t i : ℕ) → 16 ≤ t → i < positions b → eqb (side' i) t ≡ eqb (side i) t
  stands side side' ok image t i a l =
      ap (λ (x : ℕ). eqb x t) (image i l)
      ∙ same-variable (positions b) (label_count b) (map_at b) (map-small b v) (map-alike b) i (side i) t l a
      (side-term b side ok i l)

  module _
      (left left' right right' : ℕ → ℕ) (left-ok : side_ok b left ≡ true) (right-ok : side_ok b right ≡ true)
      (left-image : Image left left') (right-image : Image right right') where
    dash-stands : (i : ℕ) → i < positions b → is_dash (term_of (right' i)) ≡ is_dash (term_of (right i))
    dash-stands i l =
        dash-byte (right' i) ∙ stands right right' right-ok right-image 255 i (omega arith) l
        ∙ sym (dash-byte (right i))

    shows-relabelled : (t : ℕ) → 16 ≤ t → (j : ℕ) → j < positions b → shows left' right' t j ≡ shows left right t j
    shows-relabelled t a j l =
        ap₂ ◌||◌ (stands right right' right-ok right-image t j a l)
        (ap₂ ◌&&◌ (stands left left' left-ok left-image t j a l) (dash-stands j l))

    kept-relabelled :
        (i : ℕ) → i < positions b
        → kept_term (positions b) left' right' (term_of (relabel_term (map_at b i) (left i)))
        ≡ kept_term (positions b) left right (term_of (left i))
    kept-relabelled i l = go (view (left i))
      where
        go :
            View (left i)
            → kept_term (positions b) left' right' (term_of (relabel_term (map_at b i) (left i)))
            ≡ kept_term (positions b) left right (term_of (left i))
        go (label a) =
            let k : left i < label_count b i =
            ltb-true _ _ (rw (is-label (left i) a) at (side-term b left left-ok i l)) in
            rw (
              relabel-label (map_at b i) (left i) a,
              is-label (map_at b i (left i)) (map-small b v i (left i) l k),
              is-label (left i) a,
            )
        go (variable a c) =
            rw (relabel-other (map_at b i) (left i) a, is-variable (left i) a c)
            (some-ext (shows left' right' (left i)) (shows left right (left i)) (positions b)
            (shows-relabelled (left i) a))
        go (dash e) = rw (relabel-other (map_at b i) (left i) (omega arith), is_dash_lem (left i) e)
        go (refused a c) = rw (relabel-other (map_at b i) (left i) (omega arith), is-refused (left i) a c)

    form-relabelled :
        (i : ℕ) → i < positions b → form_at (positions b) left' right' i ≡ form_at (positions b) left right i
    form-relabelled i l =
        ap₂ ◌||◌ (dash-stands i l)
        (ap (λ (t : ℕ). kept_term (positions b) left' right' (term_of t)) (left-image i l) ∙ kept-relabelled i l)

  pub reversible-relabelled : (r : ℕ) → r < rules b → reversible (relabel_block b) r ≡ reversible b r
  unfolding reversible
  reversible-relabelled r lr =
      let left = left_of b r in
      let left' = left_of (relabel_block b) r in
      let right = right_of b r in
      let right' = right_of (relabel_block b) r in
      rw (positions-relabelled b)
      (all-ext (form_at (positions b) left' right') (form_at (positions b) left right) (positions b)
      (form-relabelled left left' right right' (left-side b v r lr) (right_side b v r lr) (left-relabelled b r lr)
      (right-relabelled b r lr)))
