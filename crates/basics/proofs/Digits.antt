-- Digits and numbers: digits below their bases make a number below `span`, no less than that of the first of them
-- (`value_grows`), and the number of digits and the digits of a number undo one another; with one base the numbers are
-- those below a power (`span-power`), and a power with one factor more (`power-more`). Ranks of states rest on these.
use mathlib.Core.Path.{◌≡◌, refl, sym, ap, ap₂, ◌∙◌}
use mathlib.Core.Logic.{⊎_elim}
use mathlib.Core.List.{List, [], ◌∷◌, ◌++◌}
use Prim.Native.Nat.{ℕ, zero, suc, ◌+◌, ◌*◌, ◌/◌, ◌%◌, ◌^◌, ◌≤◌, ◌<◌}
use native.Mathlib.Nat.{eq-or-lt_of_le, le_of_suc-le-suc, not-suc-le-zero, mod-lt, le-mul_of_pos_right, pow-zero}
use native.Mathlib.Nat.{pow-suc, div-lt_iff_lt-mul, div-add-mod'}
use native.Mathlib.Numerals.{add-one}
use native.Mathlib.Omega.{arith}
use lib.Arith.{digits_lt, digits_div, digits_mod}
use lib.ListN.{length, get_or, take, length-append, get_or-append}
use lib.Seq.{get_or_at, take-suc, take_all}
use Rattle.basics.specs.Digits.{value_to, digits, span}

lt-of-eq : {a b c : ℕ} → a ≡ b → b < c → a < c
lt-of-eq e l = omega arith

module _ (base : ℕ → ℕ) where
  pub value-below : (s : List ℕ) (n : ℕ) → ((i : ℕ) → i < n → get_or s i 0 < base i) → value_to base s n < span base n
  value-below s zero h = omega arith
  value-below s (suc n) h = digits_lt (value-below s n (λ i l. h i (omega arith))) (h n (omega arith))

  -- the first digits alone write no greater number
  pub value_grows :
      (s : List ℕ) (i n : ℕ) → i ≤ n → ((j : ℕ) → j < n → get_or s j 0 < base j) → value_to base s i ≤ value_to base s n
  value_grows s i zero l h = let e : i ≡ 0 = omega arith in rw e (omega arith)
  value_grows s i (suc n) l h =
      ⊎_elim (λ e. rw e (omega arith))
      (λ k.
      let d = h n (omega arith) in
      omega (
        arith,
        value_grows s i n (le_of_suc-le-suc k) (λ j l. h j (omega arith)),
        le-mul_of_pos_right {m = base n} (value_to base s n) (omega arith),
      ))
      (eq-or-lt_of_le l)

  -- a number goes by its n digits alone
  pub value-ext :
      (s t : List ℕ) (n : ℕ) → ((i : ℕ) → i < n → get_or s i 0 ≡ get_or t i 0) → value_to base s n ≡ value_to base t n
  value-ext s t zero h = refl
  value-ext s t (suc n) h =
      ap₂ (λ (a d : ℕ). a * base n + d) (value-ext s t n (λ i l. h i (omega arith))) (h n (omega arith))

  pub length_digits : (n v : ℕ) → length (digits base n v) ≡ n
  length_digits zero v = refl
  length_digits (suc n) v =
      let e = length_digits n (v / base n) in
      length-append (digits base n (v / base n)) (v % base n ∷ []) ∙ omega arith

  front-digit : (n v i : ℕ) → i < n → get_or (digits base (suc n) v) i 0 ≡ get_or (digits base n (v / base n)) i 0
  front-digit n v i l =
      get_or-append (digits base n (v / base n)) (v % base n ∷ []) 0 i (omega (arith, length_digits n (v / base n)))

  last-digit : (n v : ℕ) → get_or (digits base (suc n) v) n 0 ≡ v % base n
  last-digit n v = get_or_at (digits base n (v / base n)) (v % base n) [] 0 n (length_digits n (v / base n))

  module _ (positive : (i : ℕ) → 0 < base i) where
    pub digit-below : (n v i : ℕ) → i < n → get_or (digits base n v) i 0 < base i
    digit-below zero v i l = absurd (not-suc-le-zero l)
    digit-below (suc n) v i l =
        ⊎_elim (λ e. rw e (lt-of-eq (last-digit n v) (mod-lt v (positive n))))
        (λ k. lt-of-eq (front-digit n v i k) (digit-below n (v / base n) i k)) (eq-or-lt_of_le (le_of_suc-le-suc l))

    pub value-digits : (n v : ℕ) → v < span base n → value_to base (digits base n v) n ≡ v
    value-digits zero v l = omega arith
    value-digits (suc n) v l =
        ap₂ (λ (a d : ℕ). a * base n + d)
        (value-ext (digits base (suc n) v) (digits base n (v / base n)) n (front-digit n v)
        ∙ value-digits n (v / base n) ((div-lt_iff_lt-mul (positive n)).1 l))
        (last-digit n v)
        ∙ div-add-mod' v (base n)

  -- the digits of a number whose digits are the first n elements of s
  digits-front :
      (s : List ℕ) (n : ℕ) → n ≤ length s → ((i : ℕ) → i < n → get_or s i 0 < base i)
      → digits base n (value_to base s n) ≡ take n s
  digits-front s zero l h = refl
  digits-front s (suc n) l h =
      let d = h n (omega arith) in
      let v = value_to base s n in
      ap₂ (λ (a x : ℕ). digits base n a ++ (x ∷ []))
      (digits_div v d)
      (digits_mod v d)
      ∙ ap (λ (x : List ℕ). x ++ (get_or s n 0 ∷ [])) (digits-front s n (omega arith) (λ i k. h i (omega arith)))
      ∙ sym (take-suc s n 0 l)

  pub digits_value :
      (s : List ℕ) (n : ℕ) → length s ≡ n → ((i : ℕ) → i < n → get_or s i 0 < base i)
      → digits base n (value_to base s n) ≡ s
  digits_value s n e h = digits-front s n (omega arith) h ∙ take_all n s (omega arith)

-- a power, one factor more
pub power-more : (k i p : ℕ) → p ≡ k ^ i → p * k ≡ k ^ (i + 1)
power-more k i p e = ap (λ (x : ℕ). x * k) e ∙ sym (pow-suc k i) ∙ ap (λ (x : ℕ). k ^ x) (sym (add-one i))

-- one base for all places
pub span-power : (base : ℕ → ℕ) (k : ℕ) → ((i : ℕ) → base i ≡ k) → (n : ℕ) → span base n ≡ k ^ n
span-power base k h zero = sym (pow-zero k)
span-power base k h (suc n) = ap₂ ◌*◌ (span-power base k h n) (h n) ∙ sym (pow-suc k n)
