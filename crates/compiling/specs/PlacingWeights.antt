-- What the parts of compiling the map leave: the weights of one position's labels (`RowPlaced`), of all single labels
-- (`SinglesPlaced`), and of pairs (`PairsPlaced`). The functions that place weights are stated with these; together
-- they make the weights `Weighted`.
use Rattle.std.specs.Prelude.{◌≡◌, List, ℕ, ◌+◌, ◌*◌, ◌/◌, ◌%◌, ◌≤◌, ◌<◌, get_or}
use Rattle.basics.specs.Parts.{Outside}
use Rattle.blocks.specs.Layout.{positions, label_count, map_at}
use Rattle.words.specs.Ranking.{weight_of}

-- the weights of the labels at position i, where an abstract label counts p; if none was above 16384, none is
pub record RowPlaced (b : List ℕ) (i p : ℕ) (singles₀ singles₁ : List ℕ) : Type 0 where
  pub weight : (x : ℕ) → x < label_count b i → get_or singles₁ (16 * i + x) 0 ≡ map_at b i x * p
  pub low : ((k : ℕ) → get_or singles₀ k 0 ≤ 16384) → (k : ℕ) → get_or singles₁ k 0 ≤ 16384
  pub singles : Outside (16 * i) (16 * i + 16) singles₀ singles₁

-- the weight of each label at each position, 0 behind the last, and none so high that two would not fit 16 bits
pub record SinglesPlaced (b singles : List ℕ) : Type 0 where
  pub weight : (i x : ℕ) → i < positions b → x < label_count b i → get_or singles (16 * i + x) 0 ≡ weight_of b i x
  pub behind : (k : ℕ) → 16 * positions b ≤ k → get_or singles k 0 ≡ 0
  pub low : (k : ℕ) → get_or singles k 0 ≤ 16384

-- what the two digits of the byte k % 256 add together where it is byte k / 256 of a word
abbrev pub pair_weight : List ℕ → ℕ → ℕ
pair_weight singles k =
    get_or singles (32 * (k / 256) + k % 16) 0 + get_or singles (32 * (k / 256) + 16 + k / 16 % 16) 0

-- the weights of the pairs that n labels make
pub record PairsPlaced (n : ℕ) (singles weights : List ℕ) : Type 0 where
  pub pair : (k : ℕ) → k < 256 * ((n + 1) / 2) → get_or weights k 0 ≡ pair_weight singles k
