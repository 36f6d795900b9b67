-- Applying, in the document's words and both ways: what a rule makes of a state that its left side matches is a
-- `Successor` (`made-successor`), and of n labels there is no other (`successor-only`). The demands rest on these.
use mathlib.Core.Path.{◌≡◌, sym, ap, ◌∙◌}
use mathlib.Core.Bool.{Bool, true}
use mathlib.Core.List.{List}
use Prim.Native.Nat.{ℕ, ◌≤◌, ◌<◌}
use native.Mathlib.Omega.{arith}
use lib.Dec.{eqb}
use lib.ListN.{length, get_or}
use borrow.Author.Tests.{eq-eqb, eqb-true}
use Rattle.basics.specs.Bounded.{some}
use Rattle.basics.proofs.Bounded.{first_holds, some-intro}
use Rattle.basics.proofs.Lists.{same-list}
use Rattle.blocks.proofs.TermCases.{View, label, variable, dash, refused, view, is-label, is-variable, is_dash_lem}
use Rattle.psvn.specs.Rules.{bound, given, rewritten}
use Rattle.psvn.specs.Meaning.{Matched, Successor}
use Rattle.psvn.proofs.Making.{rewritten-at, rewritten-length}

module _ (n : ℕ) (left right : ℕ → ℕ) (s : List ℕ) (m : Matched n left s) where
  -- the bound label is that of every position where the variable stands
  bound-label : (v j : ℕ) → j < n → 16 ≤ v → v < 32 → left j ≡ v → bound n left s v ≡ get_or s j 0
  unfolding bound
  bound-label v j l a b e =
      let stands : ℕ → Bool = λ k. eqb (left k) v in
      let h = first_holds stands n (some-intro stands n j l (eq-eqb (left j) v e)) in
      let f = eqb-true _ _ h.1 in
      m.same _ j h.0 l (omega (arith, f)) (omega (arith, f)) (e ∙ sym f)

  pub made-successor : Successor n left right s (rewritten n left right s)
  made-successor =
      record {
        constant = λ i l a. rewritten-at n left right s i l ∙ ap (given n left s i) (is-label (right i) a);
        variable =
            λ i j li lj a b e.
            rewritten-at n left right s i li ∙ ap (given n left s i) (is-variable (right i) a b)
            ∙ bound-label (right i) j lj a b e;
        dash = λ i l e. rewritten-at n left right s i l ∙ ap (given n left s i) (is_dash_lem (right i) e);
      }

  -- where each right byte is a term, and its variables stand on the left
  pub successor-only :
      ((i : ℕ) → i < n → 32 ≤ right i → right i ≡ 255)
      → ((i : ℕ) → i < n → 16 ≤ right i → right i < 32 → some n (λ j. eqb (left j) (right i)) ≡ true)
      → (t : List ℕ) → length t ≡ n → Successor n left right s t → rewritten n left right s ≡ t
  successor-only dashes bindings t long w =
      same-list n (rewritten n left right s) t (rewritten-length n left right s) long (λ i l. go i l (view (right i)))
    where
      go : (i : ℕ) → i < n → View (right i) → get_or (rewritten n left right s) i 0 ≡ get_or t i 0
      go i l (label a) = made-successor.constant i l a ∙ sym (w.constant i l a)
      go i l (variable a b) =
          let h = first_holds (λ j. eqb (left j) (right i)) n (bindings i l a b) in
          let f = eqb-true _ _ h.1 in
          made-successor.variable i _ l h.0 a b f ∙ sym (w.variable i _ l h.0 a b f)
      go i l (dash e) = made-successor.dash i l e ∙ sym (w.dash i l e)
      go i l (refused a b) = absurd (b (dashes i l a))
