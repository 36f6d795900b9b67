-- Sets of numbers below 64 as words: the members of the empty set, and that no other has none (`no_member`), of all, of
-- twice a set, of what two sets share (`member-and`); the lowest member (`lowest-member`, `lowest-in`, `lowest-least`),
-- and the set without it (`without_lowest_lem`, `without_other`, `without-less`). The code that makes sets and goes
-- through them rests on these.
use mathlib.Core.Path.{◌≡◌, refl, sym, ap, ap₂, ◌∙◌}
use mathlib.Core.Bool.{Bool, true, false, ◌&&◌}
use Prim.Native.Nat.{ℕ, zero, suc, ◌-◌, ◌/◌, ◌%◌, ◌^◌, ◌<◌}
use native.Mathlib.Nat.{div-one, pow-succ', div-div-eq-div-mul, mod-lt, zero-lt-suc, pow-suc, not-suc-le-zero}
use native.Mathlib.Nat.{le_of_suc-le-suc}
use native.Mathlib.Omega.{arith}
use lib.Bits.{bit_and, and_shr, and_mod, and_self, and_le_r}
use lib.Count.{count_trailing_zeros, under}
use lib.Dec.{eqb}
use lib.Pow.{pow_pos}
use Rattle.basics.proofs.Truth.{true-false, and-right-false}
use Rattle.basics.specs.Sets.{member}

-- the first number by the word's rest, the others by its half
pub member-first : (s d : ℕ) → s % 2 ≡ d → member s 0 ≡ eqb d 1
unfolding member
member-first s d e = ap (λ (x : ℕ). eqb x 1) e

pub member-next : (s t r : ℕ) → s / 2 ≡ t → member s (suc r) ≡ member t r
unfolding member
member-next s t r e = ap (λ (x : ℕ). member x r) e

-- a member, by shifting
pub member-shift : (r s : ℕ) → eqb (s / 2 ^ r % 2) 1 ≡ member s r
member-shift zero s = ap (λ (x : ℕ). eqb (x % 2) 1) (div-one s) ∙ sym (member-first s (s % 2) refl)
member-shift (suc r) s =
    ap (λ (x : ℕ). eqb (s / x % 2) 1) (pow-succ' 2 r)
    ∙ ap (λ (x : ℕ). eqb (x % 2) 1) (sym (div-div-eq-div-mul s 2 (2 ^ r)))
    ∙ member-shift r (s / 2) ∙ sym (member-next s (s / 2) r refl)

-- the empty set
pub member-none : (r : ℕ) → member 0 r ≡ false
member-none zero = member-first 0 0 refl
member-none (suc r) = member-next 0 0 r refl ∙ member-none r

-- the set of the first k numbers
pub member-all : (k r : ℕ) → r < k → member (2 ^ k - 1) r ≡ true
member-all zero r l = absurd (not-suc-le-zero l)
member-all (suc k) zero l =
    member-first (2 ^ suc k - 1) 1 (omega (arith, pow-suc 2 k, pow_pos k))
member-all (suc k) (suc r) l =
    member-next (2 ^ suc k - 1) (2 ^ k - 1) r (omega (arith, pow-suc 2 k, pow_pos k))
    ∙ member-all k r (le_of_suc-le-suc l)

-- what two sets share
bit-and : (x y : ℕ) → x < 2 → y < 2 → eqb (bit_and x y) 1 ≡ (eqb x 1 && eqb y 1)
bit-and zero y a b = refl
bit-and (suc x) zero a b = let i : x ≡ 0 = omega arith in rw i
bit-and (suc x) (suc y) a b =
    let i : x ≡ 0 = omega arith in
    let j : y ≡ 0 = omega arith in
    rw (i, j)

pub member-and : (a b r : ℕ) → member (bit_and a b) r ≡ (member a r && member b r)
member-and a b zero =
    let two = zero-lt-suc 1 in
    member-first (bit_and a b) (bit_and (a % 2) (b % 2)) (and_mod a b 1)
    ∙ bit-and (a % 2) (b % 2) (mod-lt a two) (mod-lt b two)
    ∙ sym (ap₂ ◌&&◌ (member-first a (a % 2) refl) (member-first b (b % 2) refl))
member-and a b (suc r) =
    member-next (bit_and a b) (bit_and (a / 2) (b / 2)) r (and_shr a b 1)
    ∙ member-and (a / 2) (b / 2) r
    ∙ sym (ap₂ ◌&&◌ (member-next a (a / 2) r refl) (member-next b (b / 2) r refl))

-- ---- the lowest member

-- of the k lowest bits of a word: by its first bit
low-even : (k s : ℕ) → s % 2 ≡ 0 → count_trailing_zeros (suc k) s ≡ suc (count_trailing_zeros k (s / 2))
unfolding count_trailing_zeros
low-even k s e = ap (λ (d : ℕ). under d (count_trailing_zeros k (s / 2))) e

low-odd : (k s : ℕ) → s % 2 ≡ 1 → count_trailing_zeros (suc k) s ≡ 0
unfolding count_trailing_zeros
low-odd k s e = ap (λ (d : ℕ). under d (count_trailing_zeros k (s / 2))) e

-- what is shown of a set by its first bit
by_first : {P : Type 0} (s : ℕ) → (s % 2 ≡ 0 → P) → (s % 2 ≡ 1 → P) → P
by_first {P} s even odd = go (s % 2) refl (mod-lt s (zero-lt-suc 1))
  where
    go : (d : ℕ) → s % 2 ≡ d → d < 2 → P
    go zero e l = even e
    go (suc d) e l = odd (omega arith)

half-below : (k s : ℕ) → s < 2 ^ suc k → s / 2 < 2 ^ k
half-below k s l = let e = pow-suc 2 k in omega arith

pub lowest-member : (k s : ℕ) → count_trailing_zeros k s < k → member s (count_trailing_zeros k s) ≡ true
lowest-member zero s l = absurd (not-suc-le-zero l)
lowest-member (suc k) s l =
    by_first s
    (λ e.
    ap (member s) (low-even k s e) ∙ member-next s (s / 2) (count_trailing_zeros k (s / 2)) refl
    ∙ lowest-member k (s / 2) (omega (arith, low-even k s e)))
    (λ e. ap (member s) (low-odd k s e) ∙ member-first s 1 e)

lowest-within : (k s : ℕ) → 0 < s → s < 2 ^ k → count_trailing_zeros k s < k
lowest-within zero s p l = absurd (omega arith)
lowest-within (suc k) s p l =
    by_first s
    (λ e. omega (arith, low-even k s e, lowest-within k (s / 2) (omega arith) (half-below k s l)))
    (λ e. omega (arith, low-odd k s e))

pub lowest-in : (k s : ℕ) → 0 < s → s < 2 ^ k → (member s (count_trailing_zeros k s) ≡ true)
    × (count_trailing_zeros k s < k)
lowest-in k s p l = let h = lowest-within k s p l in (lowest-member k s h, h)

pub lowest-least : (k s j : ℕ) → j < count_trailing_zeros k s → member s j ≡ false
unfolding count_trailing_zeros
lowest-least zero s j l = absurd (not-suc-le-zero l)
lowest-least (suc k) s zero l =
    by_first s (λ e. member-first s 0 e) (λ e. absurd (omega (arith, low-odd k s e)))
lowest-least (suc k) s (suc j) l =
    by_first s
    (λ e. member-next s (s / 2) j refl ∙ lowest-least k (s / 2) j (omega (arith, low-even k s e)))
    (λ e. absurd (omega (arith, low-odd k s e)))

-- a set with no member is empty
pub no_member : (k s : ℕ) → s < 2 ^ k → ((r : ℕ) → r < k → member s r ≡ false) → s ≡ 0
no_member zero s l h = omega arith
no_member (suc k) s l h =
    by_first s
    (λ e.
    let half =
    no_member k (s / 2) (half-below k s l) (λ r m. sym (member-next s (s / 2) r refl) ∙ h (suc r) (omega arith)) in
    omega arith)
    (λ e. absurd (true-false (member-first s 1 e) (h 0 (omega arith))))

-- ---- the set without it

pub without-less : (s : ℕ) → 0 < s → bit_and s (s - 1) < s
without-less s p = omega (arith, and_le_r s (s - 1))

-- the half of it: of a set without its first number, or the same as the half
without-even : (s : ℕ) → 0 < s → s % 2 ≡ 0 → bit_and s (s - 1) / 2 ≡ bit_and (s / 2) (s / 2 - 1)
without-even s p e =
    let h : (s - 1) / 2 ≡ s / 2 - 1 = omega arith in
    and_shr s (s - 1) 1 ∙ ap (bit_and (s / 2)) h

without-odd : (s : ℕ) → s % 2 ≡ 1 → bit_and s (s - 1) / 2 ≡ s / 2
without-odd s e =
    let h : (s - 1) / 2 ≡ s / 2 = omega arith in
    and_shr s (s - 1) 1 ∙ ap (bit_and (s / 2)) h ∙ and_self (s / 2)

pub without_other :
    (k s r : ℕ) → 0 < s → s < 2 ^ k → (r ≡ count_trailing_zeros k s → ⊥) → member (bit_and s (s - 1)) r ≡ member s r
without_other zero s r p l n = absurd (omega arith)
without_other (suc k) s zero p l n =
    by_first s
    (λ e.
    member-and s (s - 1) 0 ∙ ap (λ (b : Bool). b && member (s - 1) 0) (member-first s 0 e) ∙ sym (member-first s 0 e))
    (λ e. absurd (n (sym (low-odd k s e))))
without_other (suc k) s (suc r) p l n =
    by_first s
    (λ e.
    member-next (bit_and s (s - 1)) (bit_and (s / 2) (s / 2 - 1)) r (without-even s p e)
    ∙ without_other k (s / 2) r (omega arith) (half-below k s l) (λ q. n (ap suc q ∙ sym (low-even k s e)))
    ∙ sym (member-next s (s / 2) r refl))
    (λ e. member-next (bit_and s (s - 1)) (s / 2) r (without-odd s e) ∙ sym (member-next s (s / 2) r refl))

pub without_lowest_lem : (k s : ℕ) → 0 < s → s < 2 ^ k → member (bit_and s (s - 1)) (count_trailing_zeros k s) ≡ false
without_lowest_lem zero s p l = absurd (omega arith)
without_lowest_lem (suc k) s p l =
    by_first s
    (λ e.
    ap (member (bit_and s (s - 1))) (low-even k s e)
    ∙ member-next (bit_and s (s - 1)) (bit_and (s / 2) (s / 2 - 1)) (count_trailing_zeros k (s / 2))
    (without-even s p e)
    ∙ without_lowest_lem k (s / 2) (omega arith) (half-below k s l))
    (λ e.
    let h : (s - 1) % 2 ≡ 0 = omega arith in
    ap (member (bit_and s (s - 1))) (low-odd k s e) ∙ member-and s (s - 1) 0
    ∙ and-right-false (member s 0) (member (s - 1) 0) (member-first (s - 1) 0 h))
