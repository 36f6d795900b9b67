-- Sets of lists by length and first rule, as the parts of a round go through them: up to d
-- rules (`Short`), rule i first (`Only`), a rule from i on first (`From`). A list of the last
-- has rule i first or a later rule (`from-split`), and those with rule i first come before
-- the others (`only-sooner`). What a round leaves, and what its log holds, rest on these.
use mathlib.Core.Path.{◌≡◌}
use mathlib.Core.Logic.{◌⊎◌, inl, inr, ⊎_elim}
use mathlib.Core.List.{List, [], ◌∷◌, head-eq_of_cons-eq}
use Prim.Native.Nat.{ℕ, zero, suc, ◌+◌, ◌≤◌, ◌<◌}
use native.Mathlib.Omega.{arith}
use lib.ListN.{length}
use Rattle.basics.proofs.Comparing.{below?}
use Rattle.rounds.specs.OpenLists.{Sooner}

-- up to d rules
abbrev pub Short : ℕ → List ℕ → Type 0
Short d p = length p ≤ d

-- one rule i, then up to d
abbrev pub Only : ℕ → ℕ → List ℕ → Type 0
Only i d [] = ⊥
Only i d (r ∷ p) = (r ≡ i) × (length p ≤ d)

-- a rule from i on, one of k, then up to d
abbrev pub From : ℕ → ℕ → ℕ → List ℕ → Type 0
From i k d [] = ⊥
From i k d (r ∷ p) = (i ≤ r) × (r < i + k) × (length p ≤ d)

pub only-from : (i k d : ℕ) (p : List ℕ) → Only i d p → From i (suc k) d p
only-from i k d [] q = absurd q
only-from i k d (r ∷ p) q = (omega arith, omega arith, q.1)

pub later-from : (i k d : ℕ) (p : List ℕ) → From (suc i) k d p → From i (suc k) d p
later-from i k d [] q = absurd q
later-from i k d (r ∷ p) q = (omega arith, omega arith, q.2)

pub from-split : (i k d : ℕ) (p : List ℕ) → From i (suc k) d p → Only i d p ⊎ From (suc i) k d p
from-split i k d [] q = absurd q
from-split i k d (r ∷ p) q = ⊎_elim (λ l. inr (l, omega arith, q.2)) (λ l. inl (omega arith, q.2)) (below? i r)

pub from-none : (i d : ℕ) (p : List ℕ) → From i zero d p → ⊥
from-none i d [] q = q
from-none i d (r ∷ p) q = omega arith

pub from-short : (i k d : ℕ) (p : List ℕ) → From i k d p → length p ≤ suc d
from-short i k d [] q = absurd q
from-short i k d (r ∷ p) q = omega (arith, q.2)

pub only-sooner : (i k d : ℕ) (p q : List ℕ) → Only i d p → From (suc i) k d q → Sooner p q
only-sooner i k d [] q a b = absurd a
only-sooner i k d (r ∷ p) [] a b = absurd b
only-sooner i k d (r ∷ p) (x ∷ q) a b = (inl (omega arith), λ e. omega (arith, head-eq_of_cons-eq e))
