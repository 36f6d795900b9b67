-- The mark 'no path' of document 01 (`mark`), which stands in tables where there is no cost; and the largest number of
-- 32 bits (`largest32`), which bounds limits and visits. Tables, their filling and the search are stated with these.
use Rattle.std.specs.Prelude.{ℕ}

-- the mark 'no path'
abbrev pub mark : ℕ
mark = 4294967295

-- the largest number of 32 bits: no cost limit, visit allowance or count of visits is above it
abbrev pub largest32 : ℕ
largest32 = 4294967295
