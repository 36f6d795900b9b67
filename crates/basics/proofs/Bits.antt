-- `|` does not care how it is grouped (`or_assoc`).
-- The word that a compiled side makes, joined move by move, rests on this.
use mathlib.Core.Path.{◌≡◌, sym, ap, ◌∙◌}
use Prim.Native.Nat.{ℕ, zero, suc, ◌/◌, ◌%◌, ◌<◌}
use native.Mathlib.Nat.{mod-lt, zero-lt-suc}
use native.Mathlib.Omega.{arith}
use lib.Arith.{bin_ind}
use lib.Bits.{bit_or, or_zero_l, or_zero_r, or_shr, or_mod}

-- of single bits
bit-assoc : (p q r : ℕ) → p < 2 → q < 2 → r < 2 → bit_or (bit_or p q) r ≡ bit_or p (bit_or q r)
bit-assoc zero q r a b c = ap (λ (x : ℕ). bit_or x r) (or_zero_l q) ∙ sym (or_zero_l (bit_or q r))
bit-assoc (suc p) zero r a b c = ap (λ (x : ℕ). bit_or x r) (or_zero_r (suc p))
    ∙ ap (bit_or (suc p)) (sym (or_zero_l r))
bit-assoc (suc p) (suc q) zero a b c = or_zero_r (bit_or (suc p) (suc q))
    ∙ ap (bit_or (suc p)) (sym (or_zero_r (suc q)))
bit-assoc (suc p) (suc q) (suc r) a b c =
    let i : p ≡ 0 = omega arith in
    let j : q ≡ 0 = omega arith in
    let k : r ≡ 0 = omega arith in
    rw (i, j, k)

pub or_assoc : (a b c : ℕ) → bit_or (bit_or a b) c ≡ bit_or a (bit_or b c)
or_assoc = bin_ind (λ (a : ℕ). (b c : ℕ) → bit_or (bit_or a b) c ≡ bit_or a (bit_or b c)) none more
  where
    none : (b c : ℕ) → bit_or (bit_or 0 b) c ≡ bit_or 0 (bit_or b c)
    none b c = ap (λ (x : ℕ). bit_or x c) (or_zero_l b) ∙ sym (or_zero_l (bit_or b c))

    more :
        (a : ℕ) → ((b c : ℕ) → bit_or (bit_or (a / 2) b) c ≡ bit_or (a / 2) (bit_or b c))
        → (b c : ℕ) → bit_or (bit_or a b) c ≡ bit_or a (bit_or b c)
    more a ih b c =
        let two = zero-lt-suc 1 in
        let high : bit_or (bit_or a b) c / 2 ≡ bit_or a (bit_or b c) / 2 =
        or_shr (bit_or a b) c 1 ∙ ap (λ (x : ℕ). bit_or x (c / 2)) (or_shr a b 1) ∙ ih (b / 2) (c / 2)
        ∙ sym (or_shr a (bit_or b c) 1 ∙ ap (bit_or (a / 2)) (or_shr b c 1)) in
        let low : bit_or (bit_or a b) c % 2 ≡ bit_or a (bit_or b c) % 2 =
        or_mod (bit_or a b) c 1 ∙ ap (λ (x : ℕ). bit_or x (c % 2)) (or_mod a b 1)
        ∙ bit-assoc (a % 2) (b % 2) (c % 2) (mod-lt a two) (mod-lt b two) (mod-lt c two)
        ∙ sym (or_mod a (bit_or b c) 1 ∙ ap (bit_or (a % 2)) (or_mod b c 1)) in
        omega arith
