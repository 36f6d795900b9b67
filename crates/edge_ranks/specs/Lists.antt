-- Two lists of the ranks that two sides lead to: what one more label makes of a list (`Extended`, `LabelsAdded`), that
-- labels add to ranks (`Additive`), and lists that have all words (`Listed`).
-- The contracts of the functions that find edges are stated with these.
use Rattle.std.specs.Prelude.{◌≡◌, List, ℕ, suc, ◌+◌, ◌*◌, ◌/◌, ◌%◌, ◌^◌, ◌≤◌, ◌<◌, get_or}
use Rattle.words.specs.Code.{position_count}
use Rattle.words.specs.Packing.{digit}
use Rattle.words.specs.Sides.{rewritten_word}
use Rattle.words.specs.Ranking.{rank_word}

-- the ranks of a list
abbrev pub rank_at : List ℕ → ℕ → ℕ
rank_at list j = get_or list j 0

-- the rank of what the side at place x makes of a word, and of what the side at place y makes of that
unfoldable pub first_rank : List ℕ → List ℕ → ℕ → ℕ → ℕ
first_rank code weights x w = rank_word weights (position_count code) (rewritten_word code x w)

unfoldable pub second_rank : List ℕ → List ℕ → ℕ → ℕ → ℕ → ℕ
second_rank code weights x y w = first_rank code weights y (rewritten_word code x w)

-- the first `count` ranks stand again from `at` on, each with so much more, and the ranks before `at` and behind those
-- that were written stay
pub record Extended (count at by : ℕ) (old now : ℕ → ℕ) : Type 0 where
  pub kept : (j : ℕ) → j < at → now j ≡ old j
  pub more : (j : ℕ) → j < count → now (at + j) ≡ (old j + by) % 16384
  pub behind : (j : ℕ) → at + count ≤ j → now j ≡ old j

-- so do they for each label at position p from 1 on, with what its word alone adds to the first rank
pub record LabelsAdded (f : ℕ → ℕ) (labels p count new : ℕ) (old now : ℕ → ℕ) : Type 0 where
  pub few : new ≤ 16384
  pub kept : (j : ℕ) → j < count → (j < new) × (now j ≡ old j)
  pub more :
      (l j : ℕ) → 1 ≤ l → l < labels → j < count
      → (l * count + j < new) × (now (l * count + j) < 16384)
      × ((now (l * count + j) + old 0) % 16384 ≡ (old j + f (l * 16 ^ p)) % 16384)

-- the word without the labels before position p
abbrev pub from : ℕ → ℕ → ℕ
from p w = w / 16 ^ p * 16 ^ p

-- a word of n labels below k
abbrev pub Labels : ℕ → ℕ → ℕ → Type 0
Labels n k w = (w < 16 ^ n) × ((i : ℕ) → i < n → digit w i < k)

-- the label at a position adds as much to f as it adds alone
abbrev pub Additive : ℕ → ℕ → (ℕ → ℕ) → Type 0
Additive n k f =
    (w p : ℕ) → Labels n k w → p < n
    → f (from p w) + f 0 ≡ f (from (suc p) w) + f (digit w p * 16 ^ p)

-- the lists have all words of n labels below k, without the labels before position p
abbrev pub Listed : (ℕ → ℕ) → (ℕ → ℕ) → ℕ → ℕ → ℕ → (ℕ → ℕ) → (ℕ → ℕ) → ℕ → Type 0
Listed f g n k p sources targets count =
    (w : ℕ) → Labels n k w
    → (j : ℕ) × (j < count) × (sources j ≡ f (from p w) % 16384) × (targets j ≡ g (from p w) % 16384)
