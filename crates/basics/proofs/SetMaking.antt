-- Making the set of those numbers below a bound that pass a test, from the last one down: what the word holds on the
-- way (`From`), how it begins (`from-none`), a number more or left out (`from_in`, `from_out`), that the word fits
-- (`more-fits`), and what it is in the end (`from_all`). A test that says the same makes the same set (`passing-same`).
-- The loops that make sets rest on these.
use mathlib.Core.Path.{◌≡◌, refl, sym, ap, ◌∙◌}
use mathlib.Core.Bool.{Bool, true, false, ◌&&◌}
use Prim.Native.Nat.{ℕ, zero, suc, ◌+◌, ◌-◌, ◌*◌, ◌^◌, ◌≤◌, ◌<◌}
use native.Mathlib.Nat.{add-zero, add-suc, suc-add, zero-add, pow-suc}
use native.Mathlib.Omega.{arith}
use lib.Dec.{ltb}
use lib.Pow.{pow_mono}
use borrow.Author.Tests.{lt-ltb, le-ltb, ltb-true}
use Rattle.basics.specs.Sets.{member, Passing}
use Rattle.basics.proofs.SetLaws.{member-first, member-next, member-none}

-- those from r on that are below n and pass, r as the first bit
abbrev pub From : (ℕ → Bool) → ℕ → ℕ → ℕ → Type 0
From f n r s = (k : ℕ) → member s k ≡ (ltb (r + k) n && f (r + k))

pub from-none : (f : ℕ → Bool) (n : ℕ) → From f n n 0
from-none f n k = member-none k ∙ sym (ap (λ (b : Bool). b && f (n + k)) (le-ltb (n + k) n (omega arith)))

module _ (f : ℕ → Bool) (n r s : ℕ) (low : r < n) (rest : From f n (suc r) s) where
  first_one : (b : Bool) → f r ≡ b → (ltb (r + 0) n && f (r + 0)) ≡ b
  first_one b e =
      ap (λ (k : ℕ). ltb k n && f k) (add-zero r) ∙ ap (λ (t : Bool). t && f r) (lt-ltb r n low) ∙ e

  later : (k : ℕ) → member s k ≡ (ltb (r + suc k) n && f (r + suc k))
  later k = rest k ∙ ap (λ (j : ℕ). ltb j n && f j) (suc-add r k ∙ sym (add-suc r k))

  pub from_in : f r ≡ true → From f n r (2 * s + 1)
  from_in e zero = member-first (2 * s + 1) 1 (omega arith) ∙ sym (first_one true e)
  from_in e (suc k) = member-next (2 * s + 1) s k (omega arith) ∙ later k

  pub from_out : f r ≡ false → From f n r (2 * s)
  from_out e zero = member-first (2 * s) 0 (omega arith) ∙ sym (first_one false e)
  from_out e (suc k) = member-next (2 * s) s k (omega arith) ∙ later k

pub from_all : (f : ℕ → Bool) (n r s : ℕ) → r ≡ 0 → From f n r s → Passing f n s
from_all f n r s e h k = (rw e at h) k ∙ ap (λ (j : ℕ). ltb j n && f j) (zero-add k)

-- the word with a bit more, where r is not 0
pub more-fits :
    (n r s : ℕ) → 0 < r → r ≤ n → n ≤ 64 → s < 2 ^ (n - r)
    → (2 * s + 1 < 2 ^ (n - (r - 1))) × (2 * s + 1 < 18446744073709551616)
more-fits n r s p l m h =
    let e : suc (n - r) ≡ n - (r - 1) = omega arith in
    let twice = pow-suc 2 (n - r) in
    let low : suc (n - r) ≤ 64 = omega arith in
    let most : 2 ^ suc (n - r) ≤ 2 ^ 64 = pow_mono low in
    let fits : 2 * s + 1 < 2 ^ suc (n - r) = omega arith in
    (rw e at fits, omega arith)

pub passing-same : (f g : ℕ → Bool) (n s : ℕ) → ((r : ℕ) → r < n → f r ≡ g r) → Passing f n s → Passing g n s
passing-same f g n s same h r =
    h r ∙ under-bound (ltb r n) refl
  where
    under-bound : (b : Bool) → ltb r n ≡ b → (b && f r) ≡ (b && g r)
    under-bound true e = same r (ltb-true r n e)
    under-bound false e = refl
