-- Ranks by words: the rank of the relabelled state as a sum of weights (`rank_word`), and the word of the abstract
-- state of a rank (`word_of`). The array of weights has one for each pair of positions and each two labels that stand
-- there: the weights of their abstract labels together.
use Rattle.std.specs.Prelude.{ℕ, zero, suc, ◌+◌, ◌-◌, ◌*◌, ◌/◌, List, slice_index}
use Rattle.blocks.specs.Layout.{positions, abstract_count, map_at}
use Rattle.psvn.specs.Ranks.{unrank}
use Rattle.words.specs.Packing.{digit_pair, pack}

-- the weights of the first k pairs of labels together
unfoldable pub rank_pairs : List ℕ → ℕ → ℕ → ℕ
rank_pairs weights zero w = 0
rank_pairs weights (suc k) w = rank_pairs weights k w + slice_index weights (256 * k + digit_pair w k)

-- the weights of the pairs that n labels make: where n is odd, the last label makes one with the digit behind it
unfoldable pub rank_word : List ℕ → ℕ → ℕ → ℕ
rank_word weights n w = rank_pairs weights ((n + 1) / 2) w

-- the word of the abstract state of rank k
unfoldable pub word_of : List ℕ → ℕ → ℕ
word_of b k = pack (unrank b k)

-- the product of the bases of the k positions from i on: how much the rank rises with the digit in front of them
unfoldable pub place_value : (ℕ → ℕ) → ℕ → ℕ → ℕ
place_value base i zero = 1
place_value base i (suc k) = base i * place_value base (suc i) k

-- the weight of the label x at position i: that of its abstract label
abbrev pub weight_of : List ℕ → ℕ → ℕ → ℕ
weight_of b i x = map_at b i x * place_value (abstract_count b) (suc i) (positions b - suc i)
