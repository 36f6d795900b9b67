-- Lists made by a function of the index (`tabulate`), lists joined by one (`joined`), a list written over the front of
-- another (`at_front`), lists of bytes (`Bytes`), and sums (`total`). States, relabelled blocks and the contents of
-- lent buffers are stated with these, and the visits of a search are a sum.
use Rattle.std.specs.Prelude.{ℕ, zero, suc, ◌+◌, ◌≤◌, List, [], ◌∷◌, ◌++◌, length, get_or, drop}

-- f i, f (i + 1), .. : n elements
abbrev pub tabulate_from : ℕ → ℕ → (ℕ → ℕ) → List ℕ
tabulate_from i zero f = []
tabulate_from i (suc n) f = f i ∷ tabulate_from (suc i) n f

-- f 0, f 1, .. : n elements
abbrev pub tabulate : ℕ → (ℕ → ℕ) → List ℕ
tabulate n f = tabulate_from 0 n f

-- the lists f 0, f 1, .. behind one another: n lists
abbrev pub joined : ℕ → (ℕ → List ℕ) → List ℕ
joined zero f = []
joined (suc n) f = joined n f ++ f n

-- `new` at the front of `old`, whose elements behind it are kept
abbrev pub at_front : List ℕ → List ℕ → List ℕ
at_front new old = new ++ drop (length new) old

-- the elements are bytes
abbrev pub Bytes : List ℕ → Type 0
Bytes l = (i : ℕ) → get_or l i 0 ≤ 255

-- the sum of all elements
unfoldable pub total : List ℕ → ℕ
total [] = 0
total (x ∷ xs) = x + total xs
