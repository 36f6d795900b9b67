-- Ranks by words: one digit more of the word of a rank (`word_more`); place values, from the last position on
-- (`place-last`, `place-more`), stay within the number of states (`place-below`); a state's weights add up to the rank
-- of its relabelled state (`labels-rank`). The word of a rank, the rank of a word, and the weights rest on these.
use Rattle.std.proofs.Common.{◌≡◌, ℕ, zero, suc, ◌+◌, ◌-◌, ◌*◌, ◌/◌, ◌%◌, ◌^◌, ◌<◌, ◌≤◌, List, get_or, sym, ap, ◌∙◌}
use Rattle.std.proofs.Common.{ap₂, add-zero, add-suc, mul-le-mul_right, mul_assoc, add-mul, suc-add, one-mul, zero-mul}
use Rattle.std.proofs.Common.{mul-one, arith}
use native.Mathlib.Nat.{pow-succ'}
use Rattle.basics.specs.Digits.{value_to, digits, span}
use Rattle.basics.proofs.Digits.{length_digits}
use Rattle.blocks.specs.Layout.{positions, abstract_count}
use Rattle.psvn.specs.Relabelling.{relabel_state}
use Rattle.psvn.specs.Ranks.{rank}
use Rattle.psvn.proofs.Relabelled.{relabelled-label}
use Rattle.words.specs.Packing.{pack}
use Rattle.words.specs.Ranking.{place_value, weight_of}
use Rattle.words.proofs.WordDigits.{pack-last}

-- the digits from i on stand in the word, and those of the rest are still to come: one digit more
pub word_more :
    (base : ℕ → ℕ) (i word rest : ℕ)
    → word * 16 ^ suc i + pack (digits base (suc i) rest)
    ≡ (word * 16 + rest % base i) * 16 ^ i + pack (digits base i (rest / base i))
word_more base i word rest =
    let d = rest % base i in
    let front = digits base i (rest / base i) in
    let a = ap (λ (p : ℕ). word * p) (pow-succ' 16 i) in
    let b = mul_assoc word 16 (16 ^ i) in
    let e = pack-last front d ∙ ap (λ (k : ℕ). pack front + d * 16 ^ k) (length_digits base i (rest / base i)) in
    omega (arith, add-mul (word * 16) d (16 ^ i))

module _ (base : ℕ → ℕ) where
  -- the place value behind position i, and at it
  pub place-more : (n i : ℕ) → i < n → place_value base i (n - i) ≡ base i * place_value base (suc i) (n - suc i)
  unfolding place_value
  place-more n i l = let e : n - i ≡ suc (n - suc i) = omega arith in ap (place_value base i) e

  pub place-last : (n : ℕ) → place_value base n (n - n) ≡ 1
  unfolding place_value
  place-last n = let e : n - n ≡ 0 = omega arith in ap (place_value base n) e

  -- the numbers that the digits before i write, and those behind, make all of them
  span-placed : (k i : ℕ) → span base i * place_value base i k ≡ span base (i + k)
  unfolding place_value
  span-placed zero i = mul-one (span base i) ∙ ap (span base) (sym (add-zero i))
  span-placed (suc k) i =
      sym (mul_assoc (span base i) (base i) (place_value base (suc i) k)) ∙ span-placed k (suc i)
      ∙ ap (span base) (suc-add i k ∙ sym (add-suc i k))

  module _ (positive : (i : ℕ) → 0 < base i) where
    span-positive : (n : ℕ) → 1 ≤ span base n
    span-positive zero = omega arith
    span-positive (suc n) =
        let m = mul-le-mul_right (base n) (span-positive n) in
        omega (arith, one-mul (base n), positive n)

    pub place-below : (n i : ℕ) → i ≤ n → place_value base i (n - i) ≤ span base n
    place-below n i l =
        let e : i + (n - i) ≡ n = omega arith in
        let m = mul-le-mul_right (place_value base i (n - i)) (span-positive i) in
        omega (arith, one-mul (place_value base i (n - i)), span-placed (n - i) i, ap (span base) e)

-- the weights of a state's first j labels together
abbrev pub labels_rank : List ℕ → List ℕ → ℕ → ℕ
labels_rank b s zero = 0
labels_rank b s (suc j) = labels_rank b s j + weight_of b j (get_or s j 0)

module _ (b s : List ℕ) where
  -- they are the number of the labels before position j, times what they count
  sum-placed :
      (j : ℕ) → j ≤ positions b
      → labels_rank b s j
      ≡ value_to (abstract_count b) (relabel_state b s) j * place_value (abstract_count b) j (positions b - j)
  sum-placed zero l = sym (zero-mul (place_value (abstract_count b) 0 (positions b - 0)))
  sum-placed (suc j) l =
      let n = positions b in
      let base = abstract_count b in
      let u = relabel_state b s in
      let p = place_value base (suc j) (n - suc j) in
      ap₂ ◌+◌
      (sum-placed j (omega arith) ∙ ap (λ (y : ℕ). value_to base u j * y) (place-more base n j l)
      ∙ sym (mul_assoc (value_to base u j) (base j) p))
      (ap (λ (y : ℕ). y * p) (sym (relabelled-label b s j l)))
      ∙ sym (add-mul (value_to base u j * base j) (get_or u j 0) p)

  pub labels-rank : labels_rank b s (positions b) ≡ rank b (relabel_state b s)
  unfolding rank
  labels-rank =
      let n = positions b in
      let value = value_to (abstract_count b) (relabel_state b s) n in
      sum-placed n (omega arith) ∙ ap (λ (y : ℕ). value * y) (place-last (abstract_count b) n) ∙ mul-one value
