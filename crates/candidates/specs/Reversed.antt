-- Rules compiled backwards ask for nothing behind a word's labels: `Fronted`.
-- So the sets of such rules tell which of them have their constants in a word.
use Rattle.std.specs.Prelude.{◌≡◌, true, List, ℕ, ◌≤◌, ◌<◌}
use Rattle.words.specs.Sides.{left_place, mask_allows}

-- the left sides of the first r rules ask for nothing behind n labels
abbrev pub Fronted : List ℕ → ℕ → ℕ → Type 0
Fronted code r n = (k : ℕ) → k < r → (i y : ℕ) → n ≤ i → mask_allows code (left_place k) i y ≡ true
