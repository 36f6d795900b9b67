-- Tests over the numbers below a bound: each of them (`all`), some of them (`some`), the first of them (`first`), and
-- the first and the last if there is one (`find`, `last`). Validity, matching, goals and predecessors are stated with
-- these.
use Rattle.std.specs.Prelude.{ℕ, zero, suc, Bool, true, false, cond, ◌&&◌, ◌||◌, Option, None, Some}

-- the test holds at each number below n
abbrev pub all : ℕ → (ℕ → Bool) → Bool
all zero f = true
all (suc n) f = all n f && f n

-- the test holds at a number below n
abbrev pub some : ℕ → (ℕ → Bool) → Bool
some zero f = false
some (suc n) f = some n f || f n

-- the least number below n at which the test holds, or n
abbrev pub first : ℕ → (ℕ → Bool) → ℕ
first zero f = zero
first (suc n) f = cond (some n f) (first n f) (cond (f n) n (suc n))

-- the least number below n at which the test holds, or none
abbrev pub find : ℕ → (ℕ → Bool) → Option ℕ
find n f = cond (some n f) (Some (first n f)) None

-- the greatest number below n at which the test holds, or none
abbrev pub last : ℕ → (ℕ → Bool) → Option ℕ
last zero f = None
last (suc n) f = cond (f n) (Some n) (last n f)
