-- What it says that a list is `labelled`: its length, and each label by itself (`labelled-length`, `labelled-at`,
-- `labelled-intro`; of a block's state `state-length`, `state-label`); its number in the base of the label counts
-- (`labelled-below`, `labelled-digits`, `digits-labelled`); and the limits of the counts (`some_label`,
-- `label-count-low`, `some-abstract`, `abstract-count-low`). The theorems on states and ranks, and the code that reads
-- a checked state, rest on these.
use mathlib.Core.Path.{◌≡◌}
use mathlib.Core.Bool.{true}
use mathlib.Core.List.{List}
use Prim.Native.Nat.{ℕ, ◌≤◌, ◌<◌}
use native.Mathlib.Omega.{arith}
use lib.Dec.{eqb, ltb}
use lib.ListN.{length, get_or}
use borrow.Author.Tests.{eqb-true, ltb-true, eq-eqb, lt-ltb}
use Rattle.basics.proofs.Truth.{and-true, and_intro}
use Rattle.basics.proofs.Bounded.{all-at, all-intro}
use Rattle.basics.specs.Digits.{value_to, digits, span}
use Rattle.basics.proofs.Digits.{value-below, digits_value, digit-below, length_digits}
use Rattle.blocks.specs.Layout.{positions, label_count, abstract_count}
use Rattle.blocks.specs.Validity.{Headed}
use Rattle.blocks.specs.States.{labelled, state_ok}

module _ (n : ℕ) (count : ℕ → ℕ) (s : List ℕ) where
  module _ (ok : labelled n count s ≡ true) where
    pub labelled-length : length s ≡ n
    unfolding labelled
    labelled-length = eqb-true (length s) n (and-true (eqb (length s) n) _ ok).0

    pub labelled-at : (i : ℕ) → i < n → get_or s i 0 < count i
    unfolding labelled
    labelled-at i l =
        ltb-true _ _ (all-at (λ i. ltb (get_or s i 0) (count i)) n (and-true (eqb (length s) n) _ ok).1 i l)

    -- its number, and the digits of that
    pub labelled-below : value_to count s n < span count n
    labelled-below = value-below count s n labelled-at

    pub labelled-digits : digits count n (value_to count s n) ≡ s
    labelled-digits = digits_value count s n labelled-length labelled-at

  pub labelled-intro : length s ≡ n → ((i : ℕ) → i < n → get_or s i 0 < count i) → labelled n count s ≡ true
  unfolding labelled
  labelled-intro e h =
      and_intro (eqb (length s) n) _ (eq-eqb (length s) n e)
      (all-intro (λ i. ltb (get_or s i 0) (count i)) n (λ i l. lt-ltb (get_or s i 0) (count i) (h i l)))

pub digits-labelled :
    (n : ℕ) (count : ℕ → ℕ) → ((i : ℕ) → 0 < count i) → (k : ℕ) → labelled n count (digits count n k) ≡ true
digits-labelled n count positive k =
    labelled-intro n count (digits count n k) (length_digits count n k) (digit-below count positive n k)

-- a block's state
pub state-length : (b s : List ℕ) → state_ok b s ≡ true → length s ≡ positions b
state-length b s ok = labelled-length (positions b) (label_count b) s ok

pub state-label : (b s : List ℕ) → state_ok b s ≡ true → (i : ℕ) → i < positions b → get_or s i 0 < label_count b i
state-label b s ok i l = labelled-at (positions b) (label_count b) s ok i l

-- there is a label at each position; counts and labels are small
pub some_label : (b : List ℕ) → Headed b → (i : ℕ) → 0 < label_count b i
unfolding label_count
some_label b h i = h.sizes.l_low

pub some-abstract : (b : List ℕ) → Headed b → (i : ℕ) → 0 < abstract_count b i
unfolding abstract_count
some-abstract b h i = h.sizes.k_low

pub label-count-low : (b : List ℕ) → Headed b → (i : ℕ) → label_count b i ≤ 16
unfolding label_count
label-count-low b h i = h.sizes.l_high

pub abstract-count-low : (b : List ℕ) → Headed b → (i : ℕ) → abstract_count b i ≤ 16
unfolding abstract_count
abstract-count-low b h i = omega (arith, h.sizes.l_high, h.sizes.k_high)

pub label-below :
    (b : List ℕ) → Headed b → (s : List ℕ) → state_ok b s ≡ true → (i : ℕ) → i < positions b → get_or s i 0 < 16
label-below b h s ok i l = omega (arith, state-label b s ok i l, label-count-low b h i)
