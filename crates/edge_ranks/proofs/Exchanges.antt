-- Four states of which each position has two labels, one shared by two states and one by the other two (`Exchanged`):
-- what a side makes of them is such again (`exchanged-rewritten`), and the ranks of the first and the last together are
-- those of the other two (`exchanged-ranks`). That labels add to ranks rests on these.
use mathlib.Core.Path.{◌≡◌, refl, sym, ap, ◌∙◌}
use mathlib.Core.Logic.{◌⊎◌, inl, inr, ⊎_elim}
use mathlib.Core.Bool.{true}
use mathlib.Core.List.{List}
use Prim.Native.Nat.{ℕ, zero, suc, ◌+◌, ◌<◌}
use native.Mathlib.Omega.{arith}
use lib.Dec.{eqb}
use lib.ListN.{get_or, get_or-eq_default}
use borrow.Author.Tests.{ltb-true}
use Rattle.basics.specs.Bounded.{first}
use Rattle.basics.proofs.Comparing.{below?}
use Rattle.blocks.specs.Terms.{term_of, term_ok}
use Rattle.blocks.proofs.TermCases.{View, label, variable, dash, refused, view, is-label, is-variable, is_dash_lem}
use Rattle.blocks.proofs.TermCases.{is-refused}
use Rattle.psvn.specs.Rules.{bound, given, rewritten}
use Rattle.psvn.proofs.Making.{rewritten-at, rewritten-length}
use Rattle.words.specs.Ranking.{weight_of}
use Rattle.words.proofs.WordRanks.{labels_rank}

abbrev pub Exchanged : List ℕ → List ℕ → List ℕ → List ℕ → Type 0
Exchanged a b c d =
    (j : ℕ)
    → ((get_or a j 0 ≡ get_or b j 0) × (get_or c j 0 ≡ get_or d j 0)) ⊎ ((get_or a j 0 ≡ get_or c j 0)
    × (get_or b j 0 ≡ get_or d j 0))

-- the same number at a position of what is made, or the label of one position of the state
abbrev Drawn : ℕ → (List ℕ → ℕ) → Type 0
Drawn k f = ((x : ℕ) × (x < k) × ((s : List ℕ) → f s ≡ x)) ⊎ ((i : ℕ) × ((s : List ℕ) → f s ≡ get_or s i 0))

module _
    (n k : ℕ) (left right : ℕ → ℕ) (some : 0 < k) (terms : (i : ℕ) → i < n → term_ok k (term_of (right i)) ≡ true) where
  given-drawn : (j : ℕ) → j < n → Drawn k (λ s. given n left s j (term_of (right j)))
  unfolding bound
  given-drawn j l = go (view (right j))
    where
      go : View (right j) → Drawn k (λ s. given n left s j (term_of (right j)))
      go (label a) =
          inl (
            right j,
            ltb-true (right j) k (rw (is-label (right j) a) at (terms j l)),
            λ s. ap (given n left s j) (is-label (right j) a),
          )
      go (variable a b) =
          inr (first n (λ i. eqb (left i) (right j)), λ s. ap (given n left s j) (is-variable (right j) a b))
      go (dash e) = inr (j, λ s. ap (given n left s j) (is_dash_lem (right j) e))
      go (refused a b) = inr (j, λ s. ap (given n left s j) (is-refused (right j) a b))

  drawn : (j : ℕ) → Drawn k (λ s. get_or (rewritten n left right s) j 0)
  drawn j =
      ⊎_elim
      (λ l.
      ⊎_elim (λ h. inl (h.0, h.1, λ s. rewritten-at n left right s j l ∙ h.2 s))
      (λ h. inr (h.0, λ s. rewritten-at n left right s j l ∙ h.1 s))
      (given-drawn j l))
      (λ g.
      inl (
        0,
        some,
        λ s. get_or-eq_default (rewritten n left right s) 0 (omega (arith, g, rewritten-length n left right s)),
      ))
      (below? j n)

  pub drawn-below : (s : List ℕ) → ((j : ℕ) → get_or s j 0 < k) → (j : ℕ) → get_or (rewritten n left right s) j 0 < k
  drawn-below s h j =
      ⊎_elim (λ d. omega (arith, d.1, d.2 s)) (λ d. omega (arith, h d.0, d.1 s)) (drawn j)

  pub exchanged-rewritten :
      (a b c d : List ℕ) → Exchanged a b c d
      → Exchanged (rewritten n left right a) (rewritten n left right b) (rewritten n left right c)
      (rewritten n left right d)
  exchanged-rewritten a b c d e j =
      ⊎_elim (λ h. inl (h.2 a ∙ sym (h.2 b), h.2 c ∙ sym (h.2 d)))
      (λ h.
      let f = h.1 in
      ⊎_elim (λ q. inl (f a ∙ q.0 ∙ sym (f b), f c ∙ q.1 ∙ sym (f d)))
      (λ q. inr (f a ∙ q.0 ∙ sym (f c), f b ∙ q.1 ∙ sym (f d)))
      (e h.0))
      (drawn j)

pub exchanged-ranks :
    (block a b c d : List ℕ) → Exchanged a b c d
    → (m : ℕ) → labels_rank block a m + labels_rank block d m ≡ labels_rank block b m + labels_rank block c m
exchanged-ranks block a b c d e zero = refl
exchanged-ranks block a b c d e (suc m) =
    let ih = exchanged-ranks block a b c d e m in
    let w = weight_of block m in
    ⊎_elim (λ q. omega (arith, ih, ap w q.0, ap w q.1)) (λ q. omega (arith, ih, ap w q.0, ap w q.1)) (e m)
