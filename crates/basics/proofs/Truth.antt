-- Laws of truth values: a test is true or false and not both, and what `&&` and `||` say of their parts.
-- The laws of bounded tests and the layers above rest on these.
use mathlib.Core.Path.{◌≡◌, refl, sym, ◌∙◌}
use mathlib.Core.Bool.{Bool, true, false, ◌&&◌, ◌||◌, true≢false}

pub true-false : {t : Bool} → t ≡ true → t ≡ false → ⊥
true-false p q = true≢false (sym p ∙ q)

pub not_so : (t : Bool) → (t ≡ true → ⊥) → t ≡ false
not_so true h = absurd (h refl)
not_so false h = refl

pub and-true : (a b : Bool) → (a && b) ≡ true → (a ≡ true) × (b ≡ true)
and-true true b h = (refl, h)
and-true false b h = absurd (true≢false (sym h))

pub and_intro : (a b : Bool) → a ≡ true → b ≡ true → (a && b) ≡ true
and_intro a b p q = rw (p, q)

pub and-right-true : (a : Bool) → (a && true) ≡ a
and-right-true true = refl
and-right-true false = refl

pub and-right-false : (a b : Bool) → b ≡ false → (a && b) ≡ false
and-right-false true b h = h
and-right-false false b h = refl

-- two pairs of tests, taken crosswise
pub and-swap : (a b c d : Bool) → ((a && b) && (c && d)) ≡ ((a && c) && (b && d))
and-swap true true c d = refl
and-swap true false true d = refl
and-swap true false false d = refl
and-swap false b c d = refl

pub or-false : (a b : Bool) → (a || b) ≡ false → (a ≡ false) × (b ≡ false)
or-false true b h = absurd (true≢false h)
or-false false b h = (refl, h)
