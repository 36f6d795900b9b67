-- Which rows of a rule are parts of its change (`plain_row`, `is_part`), and what writing these leaves: a part
-- (`PartPlaced`), and all of them (`PartsPlaced`), each with what it keeps of the array. The functions that write
-- parts are stated with these.
use Rattle.std.specs.Prelude.{◌≡◌, ℕ, ◌+◌, ◌*◌, ◌<◌, ◌≤◌, Bool, not, ◌||◌, List, ◌==◌, nat_eq, slice_index}
use Rattle.std.specs.Prelude.{slice_index_or}
use Rattle.basics.specs.Bounded.{all}
use Rattle.basics.specs.Parts.{Outside}
use Rattle.basics.specs.Sums.{sum_to}
use Rattle.words.specs.Packing.{digit}
use Rattle.words.specs.Changes.{change_place, added_to}
use Rattle.rank_changes.specs.Rows.{entry}

-- no label at position p adds anything
abbrev pub plain_row : List ℕ → ℕ → Bool
plain_row rows p = all 16 (λ x. nat_eq (entry rows p x) 0)

-- the row of the first part is one, and each other one that adds something
abbrev pub is_part : List ℕ → ℕ → ℕ → Bool
is_part rows lead p = p == lead || not (plain_row rows p)

-- the row of position p
pub record PartPlaced (rows : List ℕ) (p at : ℕ) (changes₀ changes₁ : List ℕ) : Type 0 where
  pub shift : slice_index_or changes₁ at 0 ≡ 4 * p
  pub adds : (x : ℕ) → x < 16 → slice_index changes₁ (at + 1 + x) ≡ entry rows p x
  pub changes : Outside at (at + 17) changes₀ changes₁

-- the rows of the first p positions, together: as many parts as add something, and that of the first part
pub record PartsPlaced (rows : List ℕ) (lead r p count : ℕ) (changes₀ changes₁ : List ℕ) : Type 0 where
  pub some_part : lead < p → 0 < count
  pub few : count ≤ p
  pub added : (w : ℕ) → added_to changes₁ r w count ≡ sum_to (λ k. entry rows k (digit w k)) p
  pub changes : Outside (change_place r + 1) (change_place r + 273) changes₀ changes₁
