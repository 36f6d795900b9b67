-- Matching, in the document's words and both ways: a state matches a side exactly where its label equals each constant
-- and positions with the same variable hold equal labels (`matched`, `matching`); a dash tests nothing. This is what
-- `matches` means to a reader; proofs go by its positions (`at_position`, `at_all`). And in two parts (document 02,
-- F-3): both together are `matches` (`two-parts`), what the first one's answer means (`mismatch-means`), that a
-- variable is then bound to the label at each of its positions (`binds`), and all of this as one (`in-two-parts`).
use mathlib.Core.Path.{◌≡◌, refl, sym, ap, ◌∙◌}
use mathlib.Core.Bool.{Bool, true, false, not, ◌&&◌}
use mathlib.Core.List.{List}
use Rattle.std.specs.Prelude.{None, Some}
use Prim.Native.Nat.{ℕ, ◌≤◌, ◌<◌}
use native.Mathlib.Omega.{arith}
use lib.Dec.{eqb}
use lib.ListN.{get_or}
use borrow.Author.Tests.{eq-eqb, eqb-true, not-true, not-false}
use Rattle.basics.specs.Bounded.{find}
use Rattle.basics.proofs.Truth.{and-true, and-right-true}
use Rattle.basics.proofs.Bounded.{all-at, all-intro, all-ext, all_both, first_holds, some-intro, find_at, find-holds}
use Rattle.basics.proofs.Bounded.{none-fails, all_pass_lem, one-fails}
use Rattle.blocks.specs.Terms.{term_of}
use Rattle.blocks.specs.declared.terms.Term.{Term}
use Rattle.blocks.specs.declared.terms.Term.TheVariants.{Label, Variable, Dash, Refused}
use Rattle.psvn.specs.Rules.{bound, given, agrees, matches}
use Rattle.psvn.specs.TwoParts.{constant_allows, constant_agrees, constants_agree, constant_mismatch}
use Rattle.psvn.specs.TwoParts.{MismatchMeans, TwoParts, variable_allows, variable_agrees, variables_agree}
use Rattle.psvn.specs.Meaning.{Matched}
use Rattle.blocks.proofs.TermCases.{View, label, variable, dash, refused, view, is-label, is-variable, is_dash_lem}
use Rattle.blocks.proofs.TermCases.{is-refused}

module _ (n : ℕ) (side : ℕ → ℕ) (s : List ℕ) where
  -- position by position, both ways
  pub at_position : matches n side s ≡ true → (i : ℕ) → i < n → get_or s i 0 ≡ given n side s i (term_of (side i))
  unfolding matches
  at_position m i l = eqb-true (get_or s i 0) _ (all-at (agrees n side s) n m i l)

  pub at_all : ((i : ℕ) → i < n → get_or s i 0 ≡ given n side s i (term_of (side i))) → matches n side s ≡ true
  unfolding matches
  at_all h = all-intro (agrees n side s) n (λ i l. eq-eqb (get_or s i 0) _ (h i l))

  -- each variable is bound to the label at each position where it stands
  pub binds :
      matches n side s ≡ true → (i : ℕ) → i < n → 16 ≤ side i → side i < 32 → get_or s i 0 ≡ bound n side s (side i)
  binds m i l a b = at_position m i l ∙ ap (given n side s i) (is-variable (side i) a b)

  pub matched : matches n side s ≡ true → Matched n side s
  matched m =
      record {
        constant = λ i l a. at_position m i l ∙ ap (given n side s i) (is-label (side i) a);
        same =
            λ i j li lj a b e.
            binds m i li a b ∙ ap (bound n side s) (sym e)
            ∙ sym (binds m j lj (omega arith) (omega arith));
      }

  pub matching : Matched n side s → matches n side s ≡ true
  unfolding bound
  matching m = at_all (λ i l. go i l (view (side i)))
    where
      go : (i : ℕ) → i < n → View (side i) → get_or s i 0 ≡ given n side s i (term_of (side i))
      go i l (label a) = m.constant i l a ∙ ap (given n side s i) (sym (is-label (side i) a))
      go i l (variable a b) =
          let stands : ℕ → Bool = λ j. eqb (side j) (side i) in
          let h = first_holds stands n (some-intro stands n i l (eq-eqb (side i) (side i) refl)) in
          m.same i _ l h.0 a b (eqb-true _ _ h.1) ∙ ap (given n side s i) (sym (is-variable (side i) a b))
      go i l (dash e) = ap (given n side s i) (sym (is_dash_lem (side i) e))
      go i l (refused a b) = ap (given n side s i) (sym (is-refused (side i) a b))

  -- ---- in two parts

  -- of one term, at one position
  pub parts_at :
      (i : ℕ) (t : Term)
      → eqb (get_or s i 0) (given n side s i t)
      ≡ (constant_allows t (get_or s i 0) && variable_allows n side s t (get_or s i 0))
  parts_at i (Label c) = sym (and-right-true (eqb (get_or s i 0) c.0))
  parts_at i (Variable v) = refl
  parts_at i Dash = eq-eqb (get_or s i 0) _ refl
  parts_at i Refused = eq-eqb (get_or s i 0) _ refl

  -- both together are the definition's matching
  pub two-parts : matches n side s ≡ (constants_agree n side s && variables_agree n side s)
  unfolding matches constants_agree variables_agree
  two-parts =
      all-ext (agrees n side s) (λ i. constant_agrees side s i && variable_agrees n side s i) n (λ i l.
      parts_at i (term_of (side i)))
      ∙ all_both (constant_agrees side s) (variable_agrees n side s) n

  -- by the answer of the first: with none the second decides, and a position rules the side out
  pub constants-agree : constant_mismatch n side s ≡ None → constants_agree n side s ≡ true
  unfolding constant_mismatch constants_agree
  constants-agree h = all_pass_lem (constant_agrees side s) n h

  pub by-variables : constants_agree n side s ≡ true → matches n side s ≡ variables_agree n side s
  by-variables h = two-parts ∙ ap (λ (t : Bool). t && variables_agree n side s) h

  pub ruled_out : (i : ℕ) → constant_mismatch n side s ≡ Some i → matches n side s ≡ false
  unfolding constant_mismatch constants_agree
  ruled_out i h = two-parts
      ∙ ap (λ (t : Bool). t && variables_agree n side s) (one-fails (constant_agrees side s) n i h)

-- what the answer of the first part means, by the test of each position
pub mismatch-means : (n : ℕ) (test : ℕ → Bool) → MismatchMeans n test (find n (λ i. not (test i)))
mismatch-means n test =
    record {
      position_iff = λ i. (
        λ h.
            let (low, fails, before) = find-holds (λ k. not (test k)) n i h in
            (low, not-true (test i) fails, λ k l. not-false (test k) (before k l)),
        λ h. find_at (λ k. not (test k)) n i h.0 (ap not h.1) (λ k l. ap not (h.2 k l)),
      );
      none_iff = (
        λ h. all-at test n (all_pass_lem test n h),
        λ h. none-fails test n (all-intro test n h),
      );
    }

pub in-two-parts : (n : ℕ) (side : ℕ → ℕ) (s : List ℕ) → TwoParts n side s
unfolding constant_mismatch constants_agree
in-two-parts n side s =
    record {
      told = mismatch-means n (constant_agrees side s);
      match_iff = (
        λ m.
            let (constants, variables) =
            and-true (constants_agree n side s) (variables_agree n side s) (sym (two-parts n side s) ∙ m) in
            (none-fails (constant_agrees side s) n constants, variables),
        λ h. by-variables n side s (constants-agree n side s h.0) ∙ h.1,
      );
      bindings = binds n side s;
    }
