-- Over the numbers f 0, f 1, ..: their sum (`sum_to`), the largest of them (`largest_from`), and several below 65,536
-- in one number (`packed_from`). What the labels of a state add to its rank, and the entries of a state in several
-- tables, are stated with these.
use Rattle.std.specs.Prelude.{ℕ, zero, suc, ◌+◌, ◌*◌, max}

-- f 0, f 1, .. together: n numbers
abbrev pub sum_to : (ℕ → ℕ) → ℕ → ℕ
sum_to f zero = 0
sum_to f (suc n) = sum_to f n + f n

-- the largest of f i, f (i + 1), ..: n numbers
abbrev pub largest_from : (ℕ → ℕ) → ℕ → ℕ → ℕ
largest_from f i zero = 0
largest_from f i (suc n) = max (f i) (largest_from f (suc i) n)

-- f i, f (i + 1), .. behind one another in one number, 16 bits for each, the first lowest: n numbers
unfoldable pub packed_from : (ℕ → ℕ) → ℕ → ℕ → ℕ
packed_from f i zero = 0
packed_from f i (suc n) = f i + 65536 * packed_from f (suc i) n
