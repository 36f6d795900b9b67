-- The cases of a position (`Case`, `case`), and what `choice` is in each: `choice-dash`, `choice-label`,
-- `choice-shown`, `choice-again`, `choice-new`, `choice-other`. It reads of the state begun only what stands before the
-- position (`choice-local`). `Keeping` and `OneToOne` go by these cases.
use mathlib.Core.Path.{◌≡◌, refl, sym, ap, ◌∙◌}
use mathlib.Core.Bool.{Bool, true, false, cond}
use mathlib.Core.List.{List}
use Prim.Native.Nat.{ℕ, ◌≤◌, ◌<◌}
use native.Mathlib.Omega.{arith}
use lib.Dec.{eqb, ltb}
use lib.ListN.{get_or}
use borrow.Author.Tests.{eqb-true, eqb-false, ltb-true, ltb-false, lt-ltb, le-ltb, eq-eqb, ne_eqb}
use Rattle.basics.specs.Bounded.{some, first}
use Rattle.basics.proofs.Bounded.{first_holds, first-none}
use Rattle.blocks.specs.Terms.{term_of, is_dash}
use Rattle.blocks.proofs.TermCases.{View, label, variable, dash, refused, view, is-label, is-variable, is_dash_lem}
use Rattle.blocks.proofs.TermCases.{is-refused, dash-byte}
use Rattle.backward.specs.Reversible.{shows}
use Rattle.backward.specs.Choices.{only, variable_choice, term_choice, choice}
use Rattle.std.proofs.Common.{None}
use Rattle.backward.proofs.Choosing.{Near}

-- position i: its right term is a dash; or its left term is a constant, a variable that the new state shows, one that
-- it does not show but that stands further left already, one that is met here first, or no such term
pub data Case (n : ℕ) (left right : ℕ → ℕ) (i : ℕ) : Type 0 where
  kept : right i ≡ 255 → Case n left right i
  constant : (right i ≡ 255 → ⊥) → left i < 16 → Case n left right i
  shown :
      (right i ≡ 255 → ⊥) → 16 ≤ left i → left i < 32 → some n (shows left right (left i)) ≡ true → Case n left right i
  again :
      (right i ≡ 255 → ⊥) → 16 ≤ left i → left i < 32 → some n (shows left right (left i)) ≡ false
      → first n (λ j. eqb (left j) (left i)) < i → Case n left right i
  new :
      (right i ≡ 255 → ⊥) → 16 ≤ left i → left i < 32 → some n (shows left right (left i)) ≡ false
      → i ≤ first n (λ j. eqb (left j) (left i)) → Case n left right i
  other : (right i ≡ 255 → ⊥) → 32 ≤ left i → Case n left right i

module _ (n : ℕ) (left right : ℕ → ℕ) (i : ℕ) where
  pub case : Case n left right i
  case =
      go (eqb (right i) 255) refl (view (left i)) (some n (shows left right (left i))) refl
      (ltb (first n (λ j. eqb (left j) (left i))) i) refl
    where
      go :
          (a : Bool) → eqb (right i) 255 ≡ a → View (left i) → (d : Bool) → some n (shows left right (left i)) ≡ d
          → (e : Bool) → ltb (first n (λ j. eqb (left j) (left i))) i ≡ e → Case n left right i
      go true a v d z e w = kept (eqb-true _ _ a)
      go false a (label x) d z e w = constant (eqb-false _ _ a) x
      go false a (variable x y) true z e w = shown (eqb-false _ _ a) x y z
      go false a (variable x y) false z true w = again (eqb-false _ _ a) x y z (ltb-true _ _ w)
      go false a (variable x y) false z false w = new (eqb-false _ _ a) x y z (ltb-false _ _ w)
      go false a (dash x) d z e w = other (eqb-false _ _ a) (omega arith)
      go false a (refused x y) d z e w = other (eqb-false _ _ a) x

module _ (n : ℕ) (left right : ℕ → ℕ) (s u : List ℕ) (i : ℕ) where
  -- by whether the right term is a dash
  pub choice-kept : is_dash (term_of (right i)) ≡ true → choice n left right s u i ≡ only (get_or s i 0)
  unfolding choice
  choice-kept e = ap (λ (t : Bool). cond t (only (get_or s i 0)) (term_choice n left right s u i (term_of (left i)))) e

  pub choice-term :
      is_dash (term_of (right i)) ≡ false → choice n left right s u i
      ≡ term_choice n left right s u i (term_of (left i))
  unfolding choice
  choice-term e = ap (λ (t : Bool). cond t (only (get_or s i 0)) (term_choice n left right s u i (term_of (left i)))) e

  -- a variable, by its first position that the new state shows and by its first position on the left
  module _ (v : ℕ) where
    pub variable-shown :
        (j : ℕ) → j ≡ first n (shows left right v) → j < n → variable_choice n left right s u i v ≡ only (get_or s j 0)
    variable-shown j e l = rw (← e) (rw (lt-ltb j n l))

    pub variable-again :
        (j : ℕ) → j ≡ first n (shows left right v) → n ≤ j → (k : ℕ) → k ≡ first n (λ j. eqb (left j) v) → k < i
        → variable_choice n left right s u i v ≡ only (get_or u k 0)
    variable-again j e l k f m = rw (← e, ← f) (rw (le-ltb j n l, lt-ltb k i m))

    pub variable-new :
        (j : ℕ) → j ≡ first n (shows left right v) → n ≤ j → (k : ℕ) → k ≡ first n (λ j. eqb (left j) v) → i ≤ k
        → variable_choice n left right s u i v ≡ None
    variable-new j e l k f m = rw (← e, ← f) (rw (le-ltb j n l, le-ltb k i m))

  -- the cases
  pub choice-dash : right i ≡ 255 → choice n left right s u i ≡ only (get_or s i 0)
  choice-dash e = choice-kept (dash-byte (right i) ∙ eq-eqb (right i) 255 e)

  module _ (h : right i ≡ 255 → ⊥) where
    no-dash : choice n left right s u i ≡ term_choice n left right s u i (term_of (left i))
    no-dash = choice-term (dash-byte (right i) ∙ ne_eqb (right i) 255 h)

    pub choice-label : left i < 16 → choice n left right s u i ≡ only (left i)
    choice-label a = no-dash ∙ ap (term_choice n left right s u i) (is-label (left i) a)

    module _ (a : 16 ≤ left i) (b : left i < 32) where
      choice-variable : choice n left right s u i ≡ variable_choice n left right s u i (left i)
      choice-variable = no-dash ∙ ap (term_choice n left right s u i) (is-variable (left i) a b)

      pub choice-shown :
          some n (shows left right (left i)) ≡ true
          → choice n left right s u i ≡ only (get_or s (first n (shows left right (left i))) 0)
      choice-shown d =
          choice-variable ∙ variable-shown (left i) _ refl (first_holds (shows left right (left i)) n d).0

      module _ (d : some n (shows left right (left i)) ≡ false) where
        nowhere : n ≤ first n (shows left right (left i))
        nowhere = omega (arith, first-none (shows left right (left i)) n d)

        pub choice-again :
            first n (λ j. eqb (left j) (left i)) < i
            → choice n left right s u i ≡ only (get_or u (first n (λ j. eqb (left j) (left i))) 0)
        choice-again l = choice-variable ∙ variable-again (left i) _ refl nowhere _ refl l

        pub choice-new : i ≤ first n (λ j. eqb (left j) (left i)) → choice n left right s u i ≡ None
        choice-new l = choice-variable ∙ variable-new (left i) _ refl nowhere _ refl l

    pub choice-other : 32 ≤ left i → choice n left right s u i ≡ None
    choice-other a = no-dash ∙ go (view (left i))
      where
        go : View (left i) → term_choice n left right s u i (term_of (left i)) ≡ None
        go (label b) = absurd (omega arith)
        go (variable b c) = absurd (omega arith)
        go (dash e) = ap (term_choice n left right s u i) (is_dash_lem (left i) e)
        go (refused b c) = ap (term_choice n left right s u i) (is-refused (left i) b c)

pub choice-local : (n : ℕ) (left right : ℕ → ℕ) (s : List ℕ) → Near (choice n left right s)
choice-local n left right s u v i h = go (case n left right i)
  where
    go : Case n left right i → choice n left right s u i ≡ choice n left right s v i
    go (kept e) = choice-dash n left right s u i e ∙ sym (choice-dash n left right s v i e)
    go (constant a b) = choice-label n left right s u i a b ∙ sym (choice-label n left right s v i a b)
    go (shown a b c d) = choice-shown n left right s u i a b c d ∙ sym (choice-shown n left right s v i a b c d)
    go (again a b c d e) =
        choice-again n left right s u i a b c d e ∙ ap only (h (first n (λ j. eqb (left j) (left i))) e)
        ∙ sym (choice-again n left right s v i a b c d e)
    go (new a b c d e) = choice-new n left right s u i a b c d e ∙ sym (choice-new n left right s v i a b c d e)
    go (other a b) = choice-other n left right s u i a b ∙ sym (choice-other n left right s v i a b)
