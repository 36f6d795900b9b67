-- Rows folded into the constant: none of them (`folded-none`), some after others (`folded_then`), and the row of a
-- position whose left term is a constant (`row-folded`); and the constant folded into a row, which leaves none
-- (`constant-folded`). Folded rows with no constant left are balanced for the states that match the left side
-- (`balanced-folded`). The functions that fold, and the ranks after a rule, rest on these.
use Rattle.std.proofs.Common.{◌≡◌, ℕ, ◌+◌, ◌*◌, ◌%◌, ◌<◌, true, List, get_or, sym, refl, ap, ◌∙◌, ⊎_elim, arith}
use Rattle.basics.specs.Sums.{sum_to}
use Rattle.basics.proofs.Comparing.{below?}
use Rattle.blocks.specs.Terms.{term_of}
use Rattle.blocks.specs.declared.labels.ConcreteLabel.{ConcreteLabel}
use Rattle.blocks.specs.declared.terms.Term.TheVariants.{Label}
use Rattle.psvn.specs.Rules.{given, matches}
use Rattle.psvn.proofs.MatchingLaws.{at_position}
use Rattle.words.specs.Changes.{word_span}
use Rattle.rank_changes.specs.Rows.{entry, entry_of, RowAdded, Balanced}
use Rattle.rank_changes.specs.Folds.{RowCleared, Folded}
use Rattle.rank_changes.proofs.RowSums.{sum_one, sum_added}

-- the rows fall by d, by which the constant grows
moved :
    (constant rows rows' d : ℕ) → rows % word_span ≡ (rows' + d) % word_span
    → ((constant + d) % word_span + rows') % word_span ≡ (constant + rows) % word_span
moved constant rows rows' d e = omega arith

-- the weights with what is added
with-weights :
    (weights constant rows rows' : ℕ) → (0 + rows') % word_span ≡ (constant + rows) % word_span
    → (weights + rows') % word_span ≡ (weights + constant + rows) % word_span
with-weights weights constant rows rows' e = omega arith

module _ (n : ℕ) (left : ℕ → ℕ) where
  pub folded-none : {rows : List ℕ} {constant : ℕ} → Folded n left rows constant rows constant
  folded-none = record { summed = λ s small m. refl }

  pub folded_then :
      {rows₀ rows₁ rows₂ : List ℕ} {constant₀ constant₁ constant₂ : ℕ} → Folded n left rows₀ constant₀ rows₁ constant₁
      → Folded n left rows₁ constant₁ rows₂ constant₂ → Folded n left rows₀ constant₀ rows₂ constant₂
  folded_then f g =
      record { summed = λ s small m. g.summed s small m ∙ f.summed s small m }

  pub row-folded :
      {rows rows' : List ℕ} (constant p : ℕ) → p < n → (c : ConcreteLabel) (x : ℕ) → term_of (left p) ≡ Label c
      → x ≡ c.0 → RowCleared p rows rows'
      → Folded n left rows constant rows' ((constant + entry rows p x) % word_span)
  row-folded {rows} {rows'} constant p l c x e f cleared =
      record {
        summed = λ s small m.
            moved constant (sum_to (entry_of rows s) n) (sum_to (entry_of rows' s) n) (entry rows p x)
            (sum_one (entry_of rows' s) (entry_of rows s) p (entry rows p x) n l (kept s small) (fell s small m));
      }
    where
      -- the label of a state that matches
      label_is : (s : List ℕ) → matches n left s ≡ true → get_or s p 0 ≡ x
      label_is s m = at_position n left s m p l ∙ ap (given n left s p) e ∙ sym f

      fell :
          (s : List ℕ) → ((p : ℕ) → p < n → get_or s p 0 < 16) → matches n left s ≡ true
          → entry_of rows s p % word_span ≡ (entry_of rows' s p + entry rows p x) % word_span
      fell s small m =
          omega (arith, ap (entry rows p) (label_is s m), cleared.zeros (get_or s p 0) (small p l))

      kept :
          (s : List ℕ) → ((p : ℕ) → p < n → get_or s p 0 < 16) → (k : ℕ) → k < n → (k ≡ p → ⊥)
          → entry_of rows s k ≡ entry_of rows' s k
      kept s small k m q =
          let x = small k m in
          ⊎_elim (λ h. sym (cleared.rows.before (16 * k + get_or s k 0) (omega arith)))
          (λ h. sym (cleared.rows.behind (16 * k + get_or s k 0) (omega arith)))
          (below? k p)

  -- a state has one label at position p, and so the constant is added once
  pub constant-folded :
      {rows₀ rows₁ rows₂ : List ℕ} {constant₀ constant₁ : ℕ} (p : ℕ) → p < n
      → Folded n left rows₀ constant₀ rows₁ constant₁
      → RowAdded (λ _. constant₁) p 16 rows₁ rows₂ → Folded n left rows₀ constant₀ rows₂ 0
  constant-folded p l folded added =
      record {
        summed = λ s small m. omega (arith, folded.summed s small m, sum_added added n l s small);
      }

  -- the weights of the labels that the right side's terms give, for a state that matches
  pub balanced-folded :
      {right : ℕ → ℕ} {singles rows₀ rows₁ : List ℕ} {constant₀ i : ℕ} → Balanced n left right singles rows₀ constant₀ i
      → Folded n left rows₀ constant₀ rows₁ 0 → (s : List ℕ) → ((p : ℕ) → p < n → get_or s p 0 < 16)
      → matches n left s ≡ true
      → (sum_to (entry_of singles s) n + sum_to (entry_of rows₁ s) n) % word_span
      ≡ sum_to (λ k. entry singles k (given n left s k (term_of (right k)))) i % word_span
  balanced-folded {singles = singles} {rows₀ = rows₀} {rows₁ = rows₁} {constant₀ = constant₀} balanced folded s low m =
      with-weights (sum_to (entry_of singles s) n) constant₀ (sum_to (entry_of rows₀ s) n) (sum_to (entry_of rows₁ s) n)
      (folded.summed s low m)
      ∙ balanced.summed s low
