-- A list with some elements replaced (`placed`): f 0, f 1, .. at the places at 0, at 1, ..
-- The exercise under a further map is stated with this.
use Rattle.std.specs.Prelude.{List, ℕ, zero, suc, set}

-- n elements replaced
abbrev pub placed : List ℕ → (ℕ → ℕ) → (ℕ → ℕ) → ℕ → List ℕ
placed l at f zero = l
placed l at f (suc n) = set (placed l at f n) (at n) (f n)
