-- What writing the changes leaves: the weights of single labels in front (`SinglesCopied`), the change of a rule
-- (`ChangeAt`, `ChangePlaced`), and of all rules (`ChangesPlaced`). The functions that write changes are stated with
-- these; together they make the array `Changed`.
use Rattle.std.specs.Prelude.{◌≡◌, ℕ, ◌+◌, ◌<◌, ◌≤◌, true, List, slice_index}
use Rattle.basics.specs.Parts.{Outside}
use Rattle.blocks.specs.Layout.{positions, rules}
use Rattle.blocks.specs.States.{state_ok}
use Rattle.psvn.specs.Rules.{applies, step}
use Rattle.words.specs.Packing.{unpack}
use Rattle.words.specs.Changes.{ranks_of, ranks_word, change_place, part_count, next_ranks}

-- the weights of single labels in front; the rest stays
pub record SinglesCopied (singles changes₀ changes₁ : List ℕ) : Type 0 where
  pub single : (k : ℕ) → k < 256 → slice_index changes₁ k ≡ slice_index singles k
  pub changes : Outside 0 256 changes₀ changes₁

-- the change of rule r is right where the rule applies
pub record ChangeAt (b singles changes : List ℕ) (r : ℕ) : Type 0 where
  pub some_part : 0 < part_count changes r
  pub few : part_count changes r ≤ 16
  pub next :
      (w : ℕ) → state_ok b (unpack (positions b) w) ≡ true → applies b r (unpack (positions b) w) ≡ true
      → next_ranks changes r (ranks_word singles (positions b) w) w
      ≡ ranks_of singles (positions b) (step b r (unpack (positions b) w))

-- it is written, and nothing else
pub record ChangePlaced (b singles : List ℕ) (r : ℕ) (changes₀ changes₁ : List ℕ) : Type 0 where
  pub change : ChangeAt b singles changes₁ r
  pub changes : Outside (change_place r) (change_place r + 273) changes₀ changes₁

-- the changes of all rules; the weights and the number of maps stay
pub record ChangesPlaced (b singles changes₀ changes₁ : List ℕ) : Type 0 where
  pub change : (r : ℕ) → r < rules b → ChangeAt b singles changes₁ r
  pub front : (k : ℕ) → k < 257 → slice_index changes₁ k ≡ slice_index changes₀ k
