-- What it says that a rule takes u to s: it applies to u, and the state it makes is s (`leads-exactly`); position by
-- position, what the right terms say of s (`Made`, `made`, `making`). The theorems on predecessors and on one-to-one
-- rules rest on these.
use mathlib.Core.Path.{◌≡◌, refl, sym, ap, ◌∙◌}
use mathlib.Core.Logic.{◌↔◌}
use mathlib.Core.Bool.{Bool, true, ◌&&◌}
use mathlib.Core.List.{List}
use Prim.Native.Nat.{ℕ, ◌≤◌, ◌<◌}
use native.Mathlib.Omega.{arith}
use lib.Dec.{eqb}
use lib.ListN.{length, get_or}
use borrow.Author.Tests.{eqb-true, eq-eqb}
use Rattle.basics.specs.Bounded.{first}
use Rattle.basics.proofs.Truth.{and-true, and_intro}
use Rattle.basics.proofs.Bounded.{all-at, all-intro}
use Rattle.basics.proofs.Lists.{same-list}
use Rattle.blocks.specs.Terms.{term_of}
use Rattle.blocks.specs.Layout.{positions, left_of, right_of}
use Rattle.blocks.proofs.TermCases.{View, label, variable, dash, refused, view, is-label, is-variable}
use Rattle.psvn.specs.Rules.{bound, given, matches, rewritten, applies, step, same, leads}
use Rattle.psvn.specs.Meaning.{Matched}
use Rattle.psvn.proofs.MatchingLaws.{matching}
use Rattle.psvn.proofs.Making.{rewritten-at, given-other}
use Rattle.psvn.proofs.Stepping.{step-length}

-- the rule with these sides takes u to s
unfoldable pub leads_by : ℕ → (ℕ → ℕ) → (ℕ → ℕ) → List ℕ → List ℕ → Bool
leads_by n left right u s = matches n left u && same n (rewritten n left right u) s

pub leads_by_lem :
    (b : List ℕ) (r : ℕ) (u s : List ℕ) → leads b r u s ≡ leads_by (positions b) (left_of b r) (right_of b r) u s
unfolding leads leads_by applies step
leads_by_lem b r u s = refl

-- what each position of the new state says, by its right term
pub record Made (n : ℕ) (left right : ℕ → ℕ) (u s : List ℕ) : Type 0 where
  pub label_at : (i : ℕ) → i < n → right i < 16 → get_or s i 0 ≡ right i
  pub variable_at :
      (i : ℕ) → i < n → 16 ≤ right i → right i < 32 → get_or s i 0 ≡ get_or u (first n (λ j. eqb (left j) (right i))) 0
  pub other_at : (i : ℕ) → i < n → 32 ≤ right i → get_or s i 0 ≡ get_or u i 0

module _ (n : ℕ) (left right : ℕ → ℕ) (u s : List ℕ) where
  pub leads-matches : leads_by n left right u s ≡ true → matches n left u ≡ true
  unfolding leads_by
  leads-matches h = (and-true (matches n left u) _ h).0

  leads-image :
      leads_by n left right u s ≡ true → (i : ℕ) → i < n → get_or (rewritten n left right u) i 0 ≡ get_or s i 0
  unfolding leads_by
  leads-image h i l =
      eqb-true _ _
      (all-at (λ i. eqb (get_or (rewritten n left right u) i 0) (get_or s i 0)) n (and-true (matches n left u) _ h).1
      i l)

  leading :
      matches n left u ≡ true → ((i : ℕ) → i < n → get_or (rewritten n left right u) i 0 ≡ get_or s i 0)
      → leads_by n left right u s ≡ true
  unfolding leads_by
  leading m h =
      and_intro (matches n left u) (same n (rewritten n left right u) s) m
      (all-intro (λ i. eqb (get_or (rewritten n left right u) i 0) (get_or s i 0)) n
      (λ i l. eq-eqb (get_or (rewritten n left right u) i 0) (get_or s i 0) (h i l)))

  -- and by the right terms
  pub made : leads_by n left right u s ≡ true → Made n left right u s
  unfolding bound
  made h =
      record {
        label_at = λ i l a. at i l ∙ ap (given n left u i) (is-label (right i) a);
        variable_at = λ i l a b. at i l ∙ ap (given n left u i) (is-variable (right i) a b);
        other_at = λ i l a. at i l ∙ given-other n left right u i a;
      }
    where
      at : (i : ℕ) → i < n → get_or s i 0 ≡ given n left u i (term_of (right i))
      at i l = sym (leads-image h i l) ∙ rewritten-at n left right u i l

  pub making : Matched n left u → Made n left right u s → leads_by n left right u s ≡ true
  unfolding bound
  making m d = leading (matching n left u m) (λ i l. rewritten-at n left right u i l ∙ sym (go i l (view (right i))))
    where
      go : (i : ℕ) → i < n → View (right i) → get_or s i 0 ≡ given n left u i (term_of (right i))
      go i l (label a) = d.label_at i l a ∙ ap (given n left u i) (sym (is-label (right i) a))
      go i l (variable a b) = d.variable_at i l a b ∙ ap (given n left u i) (sym (is-variable (right i) a b))
      go i l (dash e) = d.other_at i l (omega arith) ∙ sym (given-other n left right u i (omega arith))
      go i l (refused a b) = d.other_at i l a ∙ sym (given-other n left right u i a)

-- in the document's words, both ways
pub leads-exactly :
    (b : List ℕ) (r : ℕ) (u s : List ℕ) → length s ≡ positions b
    → (leads b r u s ≡ true) ↔ ((applies b r u ≡ true) × (step b r u ≡ s))
unfolding applies step
leads-exactly b r u s ls =
    let n = positions b in
    let left = left_of b r in
    let right = right_of b r in (
      λ h.
          let k = sym (leads_by_lem b r u s) ∙ h in (
            leads-matches n left right u s k,
            same-list n (step b r u) s (step-length b r u) ls (leads-image n left right u s k),
          ),
      λ h. leads_by_lem b r u s ∙ leading n left right u s h.0 (λ i l. ap (λ (t : List ℕ). get_or t i 0) h.1),
    )
