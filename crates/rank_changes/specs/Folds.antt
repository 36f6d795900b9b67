-- What folding rows into the constant leaves: a row that adds nothing (`RowCleared`), and for every state that matches
-- the left side the same sum (`Folded`). The functions that fold are stated with these.
use Rattle.std.specs.Prelude.{◌≡◌, ℕ, ◌+◌, ◌*◌, ◌%◌, ◌<◌, true, List, slice_index}
use Rattle.basics.specs.Parts.{Outside}
use Rattle.basics.specs.Sums.{sum_to}
use Rattle.psvn.specs.Rules.{matches}
use Rattle.words.specs.Changes.{word_span}
use Rattle.rank_changes.specs.Rows.{entry, entry_of}

-- the row of position p adds nothing; the others stay
pub record RowCleared (p : ℕ) (rows₀ rows₁ : List ℕ) : Type 0 where
  pub zeros : (x : ℕ) → x < 16 → entry rows₁ p x ≡ 0
  pub rows : Outside (16 * p) (16 * p + 16) rows₀ rows₁

-- the constant and the rows add the same to the rank of a state that matches the left side, as words are summed
pub record Folded
    (n : ℕ) (left : ℕ → ℕ) (rows₀ : List ℕ) (constant₀ : ℕ) (rows₁ : List ℕ) (constant₁ : ℕ)
    : Type 0 where
  pub summed :
      (s : List ℕ) → ((p : ℕ) → p < n → slice_index s p < 16) → matches n left s ≡ true
      → (constant₁ + sum_to (entry_of rows₁ s) n) % word_span ≡ (constant₀ + sum_to (entry_of rows₀ s) n) % word_span
