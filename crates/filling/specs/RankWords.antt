-- The word of each rank, in an array beside the compiled block: `Ranked`.
-- The fill writes it once; its passes take the words from there.
use Rattle.std.specs.Prelude.{◌≡◌, List, ℕ, ◌<◌, get_or}
use Rattle.blocks.specs.Layout.{abstract_states}
use Rattle.words.specs.Ranking.{word_of}

-- the word of each rank
pub record Ranked (a ranked : List ℕ) : Type 0 where
  pub word : (u : ℕ) → u < abstract_states a → get_or ranked u 0 ≡ word_of a u
