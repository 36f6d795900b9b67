-- Laws of sums, of the largest of several numbers, and of numbers in one: sums add up (`sum-add`, `sum-ext`), as do
-- those of one number (`sum_same`); the largest is no lower than each (`largest-above`) and no higher than all
-- (`largest-below`); each of the numbers in one is read back (`packed-low`, `packed-rest`), four of them fit 64 bits
-- (`packed-four`), and sums of packed numbers are packed sums (`packed-sum`). Ranks under several maps change as one
-- number by these.
use mathlib.Core.Path.{◌≡◌, refl, sym, ap, ap₂, ◌∙◌}
use mathlib.Core.Logic.{⊎_elim}
use Prim.Native.Nat.{ℕ, zero, suc, ◌+◌, ◌*◌, ◌/◌, ◌%◌, ◌≤◌, ◌<◌, max}
use native.Mathlib.Nat.{suc-mul, zero-mul}
use native.Mathlib.Omega.{arith}
use Rattle.basics.specs.Sums.{sum_to, largest_from, packed_from}
use Rattle.basics.proofs.Comparing.{same?}

-- ---- sums

pub sum-ext : (f g : ℕ → ℕ) (n : ℕ) → ((k : ℕ) → k < n → f k ≡ g k) → sum_to f n ≡ sum_to g n
sum-ext f g zero h = refl
sum-ext f g (suc n) h = ap₂ ◌+◌ (sum-ext f g n (λ k l. h k (omega arith))) (h n (omega arith))

pub sum-add : (f g : ℕ → ℕ) (n : ℕ) → sum_to (λ k. f k + g k) n ≡ sum_to f n + sum_to g n
sum-add f g zero = refl
sum-add f g (suc n) = omega (arith, sum-add f g n)

pub sum_same : (w n : ℕ) → sum_to (λ k. w) n ≡ n * w
sum_same w zero = sym (zero-mul w)
sum_same w (suc n) = ap (λ (x : ℕ). x + w) (sum_same w n) ∙ sym (suc-mul n w)

pub sum-rises : (f : ℕ → ℕ) (m n : ℕ) → m ≤ n → sum_to f m ≤ sum_to f n
sum-rises f m zero l = let e : m ≡ 0 = omega arith in omega (arith, ap (sum_to f) e)
sum-rises f m (suc n) l =
    ⊎_elim (λ e. omega (arith, ap (sum_to f) e)) (λ e. omega (arith, sum-rises f m n (omega arith))) (same? m (suc n))

-- ---- the largest

module _ (f : ℕ → ℕ) where
  pub largest-above : (i n j : ℕ) → i ≤ j → j < i + n → f j ≤ largest_from f i n
  largest-above i zero j l m = absurd (omega arith)
  largest-above i (suc n) j l m =
      ⊎_elim (λ e. omega (arith, ap f e)) (λ e. omega (arith, largest-above (suc i) n j (omega arith) (omega arith)))
      (same? j i)

  pub largest-below : (i n x : ℕ) → ((j : ℕ) → i ≤ j → j < i + n → f j ≤ x) → largest_from f i n ≤ x
  largest-below i zero x h = omega arith
  largest-below i (suc n) x h =
      omega (
        arith,
        h i (omega arith) (omega arith),
        largest-below (suc i) n x (λ j l m. h j (omega arith) (omega arith)),
      )

pub largest-ext :
    (f g : ℕ → ℕ) (i n : ℕ) → ((j : ℕ) → i ≤ j → j < i + n → f j ≡ g j) → largest_from f i n ≡ largest_from g i n
largest-ext f g i zero h = refl
largest-ext f g i (suc n) h =
    ap₂ max (h i (omega arith) (omega arith)) (largest-ext f g (suc i) n (λ j l m. h j (omega arith) (omega arith)))

-- ---- numbers in one

module _ (f : ℕ → ℕ) (i n : ℕ) (l : f i < 65536) where
  pub packed-low : packed_from f i (suc n) % 65536 ≡ f i
  unfolding packed_from
  packed-low = omega arith

  pub packed-rest : packed_from f i (suc n) / 65536 ≡ packed_from f (suc i) n
  unfolding packed_from
  packed-rest = omega arith

pub packed-ext :
    (f g : ℕ → ℕ) (i n : ℕ) → ((j : ℕ) → i ≤ j → j < i + n → f j ≡ g j) → packed_from f i n ≡ packed_from g i n
unfolding packed_from
packed-ext f g i zero h = refl
packed-ext f g i (suc n) h =
    ap₂ (λ (x y : ℕ). x + 65536 * y) (h i (omega arith) (omega arith))
    (packed-ext f g (suc i) n (λ j l m. h j (omega arith) (omega arith)))

pub packed-add : (f g : ℕ → ℕ) (i n : ℕ) → packed_from (λ j. f j + g j) i n ≡ packed_from f i n + packed_from g i n
unfolding packed_from
packed-add f g i zero = refl
packed-add f g i (suc n) = omega (arith, packed-add f g (suc i) n)

packed_zero : (i n : ℕ) → packed_from (λ j. 0) i n ≡ 0
unfolding packed_from
packed_zero i zero = refl
packed_zero i (suc n) = omega (arith, packed_zero (suc i) n)

-- the sum over k numbers of what is packed for each
pub packed-sum :
    (w : ℕ → ℕ → ℕ) (i n k : ℕ)
    → sum_to (λ p. packed_from (λ j. w j p) i n) k ≡ packed_from (λ j. sum_to (w j) k) i n
packed-sum w i n zero = sym (packed_zero i n)
packed-sum w i n (suc k) =
    ap (λ (x : ℕ). x + packed_from (λ j. w j k) i n) (packed-sum w i n k)
    ∙ sym (packed-add (λ j. sum_to (w j) k) (λ j. w j k) i n)

-- the numbers from i on, n of them, are below 65,536
abbrev pub AllLow : (ℕ → ℕ) → ℕ → ℕ → Type 0
AllLow f i n = (j : ℕ) → i ≤ j → j < i + n → f j < 65536

next_low : (f : ℕ → ℕ) (i n : ℕ) → AllLow f i (suc n) → (f i < 65536) × AllLow f (suc i) n
next_low f i n low = (low i (omega arith) (omega arith), λ j l m. low j (omega arith) (omega arith))

-- three of them, or fewer, leave room for one more in 64 bits
pub packed-three : (f : ℕ → ℕ) (i n : ℕ) → AllLow f i n → n ≤ 3 → packed_from f i n < 281474976710656
unfolding packed_from
packed-three f i zero low l = omega arith
packed-three f i (suc zero) low l = omega (arith, (next_low f i 0 low).0)
packed-three f i (suc (suc zero)) low l =
    let (a, more) = next_low f i 1 low in
    omega (arith, a, (next_low f (suc i) 0 more).0)
packed-three f i (suc (suc (suc zero))) low l =
    let (a, more) = next_low f i 2 low in
    let (c, last) = next_low f (suc i) 1 more in
    omega (arith, a, c, (next_low f (suc (suc i)) 0 last).0)
packed-three f i (suc (suc (suc (suc n)))) low l = absurd (omega arith)

-- four of them fit
pub packed-four : (f : ℕ → ℕ) (i n : ℕ) → AllLow f i n → n ≤ 4 → packed_from f i n < 18446744073709551616
unfolding packed_from
packed-four f i zero low l = omega arith
packed-four f i (suc n) low l =
    let (a, more) = next_low f i n low in
    omega (arith, a, packed-three f (suc i) n more (omega arith))
