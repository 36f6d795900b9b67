-- How two numbers compare: one is below the other or not (`below?`), they are equal or not (`same?`), and all three
-- cases (`trichotomy`); a number capped one above a limit keeps how it compares with the limit (`capped-leb`). Proofs
-- that go by cases of two numbers, here and in the layers above, rest on these.
use mathlib.Core.Path.{◌≡◌, refl, sym, ◌∙◌}
use mathlib.Core.Logic.{◌⊎◌, inl, inr, ⊎_elim, ◌≢◌}
use mathlib.Core.Bool.{Bool, true, false}
use Prim.Native.Nat.{ℕ, ◌+◌, ◌≤◌, ◌<◌, min}
use native.Mathlib.Omega.{arith}
use lib.Dec.{eqb, ltb, leb}
use borrow.Author.Tests.{eqb-true, eqb-false, ltb-true, ltb-false, le-leb, lt-leb}

-- a is below b or not, and is b or not
pub below? : (a b : ℕ) → (a < b) ⊎ (b ≤ a)
below? a b = go (ltb a b) refl
  where
    go : (x : Bool) → ltb a b ≡ x → (a < b) ⊎ (b ≤ a)
    go true e = inl (ltb-true a b e)
    go false e = inr (ltb-false a b e)

pub same? : (a b : ℕ) → (a ≡ b) ⊎ (a ≢ b)
same? a b = go (eqb a b) refl
  where
    go : (x : Bool) → eqb a b ≡ x → (a ≡ b) ⊎ (a ≢ b)
    go true e = inl (eqb-true a b e)
    go false e = inr (eqb-false a b e)

-- how two numbers stand to one another
pub trichotomy : (x y : ℕ) → (x < y) ⊎ ((x ≡ y) ⊎ (y < x))
trichotomy x y =
    ⊎_elim inl (λ l. ⊎_elim (λ m. inr (inr m)) (λ m. inr (inl (omega arith))) (below? y x)) (below? x y)

-- a number that is capped one above the limit is within the limit where the number is
pub capped-leb : (x most : ℕ) → leb (min x (most + 1)) most ≡ leb x most
capped-leb x most =
    ⊎_elim (λ l. lt-leb (min x (most + 1)) most (omega arith) ∙ sym (lt-leb x most l))
    (λ l. le-leb (min x (most + 1)) most (omega arith) ∙ sym (le-leb x most l)) (below? most x)
