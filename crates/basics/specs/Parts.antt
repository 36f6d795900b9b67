-- What a function that writes a part of an array keeps: its length, and its elements outside that part (`Outside`).
-- The contracts of functions that fill an array part by part are stated with it.
use Rattle.std.specs.Prelude.{◌≡◌, List, ℕ, ◌≤◌, ◌<◌, length, get_or}

pub record Outside (low high : ℕ) (old new : List ℕ) : Type 0 where
  pub len : length new ≡ length old
  pub before : (j : ℕ) → j < low → get_or new j 0 ≡ get_or old j 0
  pub behind : (j : ℕ) → high ≤ j → get_or new j 0 ≡ get_or old j 0
