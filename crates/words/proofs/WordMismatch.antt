-- The first part of matching on words, without a loop: what a word has under a mask and the value that is asked for
-- differ in some bits, and the lowest of these stands in the lowest position that differs (`mismatch-found`); where
-- they do not differ, no constant does (`mismatch-none`). A position is told exactly where the constants do not all
-- agree (`mismatch-told`). The functions that match on words rest on these.
use Rattle.std.proofs.Common.{◌≡◌, ℕ, zero, suc, ◌+◌, ◌*◌, ◌/◌, ◌%◌, ◌^◌, ◌<◌, true, false, not, eqb, List}
use Rattle.std.proofs.Common.{sym, refl, ap, ◌∙◌, arith, lit<, pow-add, eq-eqb, ne_eqb}
use Rattle.std.specs.Prelude.{Option, None, Some, is_some}
use Rattle.basics.specs.Bounded.{all}
use native.Mathlib.Nat.{div-div-eq-div-mul}
use lib.Bits.{bit_and, bit_xor, and_le_l, and_le_r, xor_add_and, xor_self}
use Rattle.basics.specs.Sets.{member, lowest}
use Rattle.basics.proofs.Bounded.{find_at, find-passed, all_pass_lem, one-fails}
use Rattle.basics.proofs.SetLaws.{member-shift, member-none, no_member, lowest-member, lowest-least}
use Rattle.basics.proofs.Truth.{true-false}
use Rattle.words.specs.Packing.{digit}
use Rattle.words.specs.Sides.{mask_at, value_at, constant_agrees_word, constants_word, mismatch_word}
use Rattle.words.proofs.WordDigits.{digit_shift, digit_lt, digit-high, digit_and, digit-xor}

-- the bits of a digit are four of the word's
low_bit : (y j : ℕ) → j < 4 → y / 2 ^ j % 2 ≡ y % 16 / 2 ^ j % 2
low_bit y zero l = omega arith
low_bit y (suc zero) l = omega arith
low_bit y (suc (suc zero)) l = omega arith
low_bit y (suc (suc (suc zero))) l = omega arith
low_bit y (suc (suc (suc (suc j)))) l = absurd (omega arith)

member-digit : (w i j : ℕ) → j < 4 → member w (4 * i + j) ≡ member (digit w i) j
member-digit w i j l =
    let y = w / 2 ^ (4 * i) in
    let shift : w / 2 ^ (4 * i + j) ≡ y / 2 ^ j =
    ap (λ (x : ℕ). w / x) (pow-add 2 (4 * i) j) ∙ sym (div-div-eq-div-mul w (2 ^ (4 * i)) (2 ^ j)) in
    sym (member-shift (4 * i + j) w)
    ∙ ap (λ (x : ℕ). eqb x 1) (ap (λ (x : ℕ). x % 2) shift ∙ low_bit y j l)
    ∙ ap (λ (x : ℕ). eqb (x / 2 ^ j % 2) 1) (digit_shift w i)
    ∙ member-shift j (digit w i)

-- the lowest bit of a word stands in its lowest digit that is not 0
module _ (v : ℕ) (found : lowest v < 64) where
  lowest-digit : digit v (lowest v / 4) ≡ 0 → ⊥
  lowest-digit e =
      let k = lowest v in
      let same : 4 * (k / 4) + k % 4 ≡ k = omega arith in
      true-false
      (sym (member-digit v (k / 4) (k % 4) (omega arith)) ∙ ap (member v) same ∙ lowest-member 64 v found)
      (ap (λ (d : ℕ). member d (k % 4)) e ∙ member-none (k % 4))

  none-lower : (i : ℕ) → i < lowest v / 4 → digit v i ≡ 0
  none-lower i l =
      no_member 4 (digit v i) (digit_lt v i) (λ j m.
      sym (member-digit v i j m) ∙ lowest-least 64 v (4 * i + j) (omega arith))

-- two numbers that differ in no bit are one
same_bits : (a b : ℕ) → bit_xor a b ≡ 0 → a ≡ b
same_bits a b e = omega (arith, xor_add_and a b, and_le_l a b, and_le_r a b)

-- a word, and in which bits it differs from what the side at place x asks for
module _ (code : List ℕ) (x w v : ℕ) (e : v ≡ bit_xor (bit_and w (mask_at code x)) (value_at code x)) where
  abbrev asked : ℕ → ℕ
  asked i = digit (value_at code x) i

  abbrev held : ℕ → ℕ
  held i = bit_and (digit w i) (digit (mask_at code x) i)

  at-digit : (i : ℕ) → digit v i ≡ bit_xor (held i) (asked i)
  at-digit i =
      ap (λ (y : ℕ). digit y i) e ∙ digit-xor (bit_and w (mask_at code x)) (value_at code x) i
      ∙ ap (λ (y : ℕ). bit_xor y (asked i)) (digit_and w (mask_at code x) i)

  agrees-there : (i : ℕ) → digit v i ≡ 0 → constant_agrees_word code x w i ≡ true
  agrees-there i h = eq-eqb (held i) (asked i) (same_bits (held i) (asked i) (sym (at-digit i) ∙ h))

  differs-there : (i : ℕ) → (digit v i ≡ 0 → ⊥) → constant_agrees_word code x w i ≡ false
  differs-there i h =
      ne_eqb (held i) (asked i) (λ q. h (at-digit i ∙ ap (λ (y : ℕ). bit_xor y (asked i)) q ∙ xor_self (asked i)))

  pub mismatch-none : v ≡ 0 → mismatch_word code x w ≡ None
  unfolding mismatch_word
  mismatch-none z =
      find-passed (λ i. not (constant_agrees_word code x w i)) 16 16 (omega arith) (λ i l.
      ap not (agrees-there i (ap (λ (y : ℕ). digit y i) z ∙ digit-high 0 0 i (lit< tt) (omega arith))))

  pub mismatch-found : lowest v < 64 → mismatch_word code x w ≡ Some (lowest v / 4)
  unfolding mismatch_word
  mismatch-found l =
      find_at (λ i. not (constant_agrees_word code x w i)) 16 (lowest v / 4) (omega arith)
      (ap not (differs-there (lowest v / 4) (lowest-digit v l)))
      (λ i k. ap not (agrees-there i (none-lower v l i k)))

-- a position is told exactly where the constants do not all agree
pub mismatch-told : (code : List ℕ) (x w : ℕ) → is_some (mismatch_word code x w) ≡ not (constants_word code x w)
unfolding mismatch_word constants_word
mismatch-told code x w = go (mismatch_word code x w) refl
  where
    go : (o : Option ℕ) → mismatch_word code x w ≡ o → is_some o ≡ not (all 16 (constant_agrees_word code x w))
    go None e = sym (ap not (all_pass_lem (constant_agrees_word code x w) 16 e))
    go (Some i) e = sym (ap not (one-fails (constant_agrees_word code x w) 16 i e))
