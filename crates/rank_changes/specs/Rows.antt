-- What a rule adds to ranks, on the way: a row of sixteen entries for each position, what each label there adds, and
-- a constant. With the weights of a state's labels they make the weights of the labels that the right side's terms
-- give (`Balanced`). All sums are those of words of 64 bits. The functions that make rows are stated with these.
use Rattle.std.specs.Prelude.{◌≡◌, ℕ, ◌+◌, ◌*◌, ◌%◌, ◌<◌, true, List, slice_index}
use Rattle.basics.specs.Parts.{Outside}
use Rattle.basics.specs.Sums.{sum_to}
use Rattle.blocks.specs.Terms.{term_of}
use Rattle.blocks.specs.Validity.{bound_in}
use Rattle.psvn.specs.Rules.{given}
use Rattle.words.specs.Changes.{word_span}

-- what the row of position p says of its label x
abbrev pub entry : List ℕ → ℕ → ℕ → ℕ
entry rows p x = slice_index rows (16 * p + x)

-- the entries for the labels of a state
abbrev pub entry_of : List ℕ → List ℕ → ℕ → ℕ
entry_of rows s p = entry rows p (slice_index s p)

-- every variable of the right side stands on the left
pub record Bound (n : ℕ) (left right : ℕ → ℕ) : Type 0 where
  pub at : (i : ℕ) → i < n → bound_in n left (term_of (right i)) ≡ true

-- each entry takes the weight of its label away
pub record RowsBegun (singles rows : List ℕ) : Type 0 where
  pub taken : (k : ℕ) → k < 256 → (slice_index rows k + slice_index singles k) % word_span ≡ 0

-- the row of position p with d added to its first x entries
pub record RowAdded (d : ℕ → ℕ) (p x : ℕ) (rows₀ rows₁ : List ℕ) : Type 0 where
  pub summed : (k : ℕ) → k < x → entry rows₁ p k ≡ (entry rows₀ p k + d k) % word_span
  pub rows : Outside (16 * p) (16 * p + x) rows₀ rows₁

-- the weights of a state's labels, the constant and the rows together: the weights of the labels that the first i
-- terms give
pub record Balanced (n : ℕ) (left right : ℕ → ℕ) (singles rows : List ℕ) (constant i : ℕ) : Type 0 where
  pub summed :
      (s : List ℕ) → ((p : ℕ) → p < n → slice_index s p < 16)
      → (sum_to (entry_of singles s) n + constant + sum_to (entry_of rows s) n) % word_span
      ≡ sum_to (λ k. entry singles k (given n left s k (term_of (right k)))) i % word_span
