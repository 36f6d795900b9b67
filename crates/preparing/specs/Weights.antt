-- What the labels of a state add to its ranks under all maps, 16 bits for each in one number: `place_weight` under one
-- map, and all of them packed (`WeightsPacked`), written from the last map on (`MapAdded`, `MapPlaced`). The
-- functions that place the weights are stated with these.
use Rattle.std.specs.Prelude.{◌≡◌, cond, List, ℕ, ◌+◌, ◌*◌, ◌/◌, ◌%◌, ◌<◌, ltb, get_or}
use Rattle.basics.specs.Sums.{packed_from}
use Rattle.blocks.specs.Layout.{positions, label_count}
use Rattle.words.specs.Ranking.{weight_of}
use Rattle.maps.specs.Maps.{exercise_at, entries_before}

-- the place where a table begins, at position 0, which every state has, and nothing at the others
abbrev pub at_first : ℕ → ℕ → ℕ
at_first begin p = cond (ltb p 1) begin 0

-- what the label x at position p adds under map j: its weight, and at position 0 where the table begins
abbrev pub place_weight : List ℕ → List ℕ → ℕ → ℕ → ℕ → ℕ
place_weight b maps p x j = weight_of (exercise_at b maps j) p x + at_first (entries_before b maps j) p

-- three numbers of 16 bits: what is left of a number when one more comes in front
abbrev pub three_ranks : ℕ
three_ranks = 281474976710656

-- the weights of one more map come in front of those that are packed
pub record MapAdded (own : List ℕ) (begin : ℕ) (singles₀ singles₁ : List ℕ) : Type 0 where
  pub weight :
      (k : ℕ) → k < 256
      → get_or singles₁ k 0 ≡ get_or own k 0 + at_first begin (k / 16) + 65536 * (get_or singles₀ k 0 % three_ranks)

-- the same, of the exercise c and its labels
pub record MapPlaced (c : List ℕ) (begin : ℕ) (singles₀ singles₁ : List ℕ) : Type 0 where
  pub weight :
      (p x : ℕ) → p < positions c → x < label_count c p
      → get_or singles₁ (16 * p + x) 0
      ≡ weight_of c p x + at_first begin p + 65536 * (get_or singles₀ (16 * p + x) 0 % three_ranks)

-- the weights under n maps from map i on
pub record WeightsPacked (b maps : List ℕ) (i n : ℕ) (singles : List ℕ) : Type 0 where
  pub weight :
      (p x : ℕ) → p < positions b → x < label_count b p
      → get_or singles (16 * p + x) 0 ≡ packed_from (place_weight b maps p x) i n
