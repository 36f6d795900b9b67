-- Base-16 words: the digits of a byte (`pair-byte`), of `&`, `|`, `^` and of one digit at its place, and that a word of
-- n labels is told by its first n digits (`same_digits`); packing and unpacking undo one another (`unpack-pack`,
-- `pack-unpack`). The functions on words, compiling and what compiled arrays mean rest on these.
use Rattle.std.proofs.Common.{◌≡◌, ℕ, zero, suc, ◌+◌, ◌*◌, ◌/◌, ◌%◌, ◌^◌, ◌<◌, ◌≤◌, List, [], ◌∷◌, ◌++◌, length, get_or}
use Rattle.std.proofs.Common.{sym, refl, ap, ◌∙◌, ap₂, lt_of_lt_of_le, le_of_suc-le-suc, not-suc-le-zero, add-zero}
use Rattle.std.proofs.Common.{add-suc, mod-lt, mod-eq_of_lt, zero-lt-suc, mul_assoc, suc-add, pow-suc, div-add-mod'}
use Rattle.std.proofs.Common.{zero-add, mul-one, div-one, mul-div_cancel, arith, lit<, pow-add, shl_exact}
use native.Mathlib.Nat.{pow-succ', pow-le-pow_right, div-div-eq-div-mul, div-eq_of_lt}
use native.Mathlib.Nat.{mul-mod_left, one-le-pow}
use lib.Arith.{digits_lt, digits_div, digits_mod}
use lib.Bits.{bit_and, bit_or, bit_xor, and_shr, and_mod, or_shr, or_mod, xor_shr, xor_mod, or_lt, or_zero_l, or_zero_r}
use Rattle.basics.specs.Lists.{tabulate_from}
use Rattle.basics.proofs.Lists.{length-tabulate, get_or-tabulate, tabulate-ext, same-list}
use Rattle.words.specs.Packing.{digit, digit_pair, pack, unpack}

-- powers of 16 and of 2
pow-16 : (i : ℕ) → 16 ^ i ≡ 2 ^ (4 * i)
pow-16 zero = refl
pow-16 (suc i) =
    pow-suc 16 i ∙ ap (λ (x : ℕ). x * 16) (pow-16 i) ∙ sym (pow-add 2 (4 * i) 4) ∙ ap (λ (k : ℕ). 2 ^ k) (four i)
  where
    four : (i : ℕ) → 4 * i + 4 ≡ 4 * suc i
    four i = omega arith

pub power-fits : (n : ℕ) → n ≤ 16 → 16 ^ n ≤ 2 ^ 64
power-fits n h = pow-le-pow_right (zero-lt-suc 15) h

-- a digit shifted to its place
pub shifted : (d i : ℕ) → d < 16 → i < 16 → d * 2 ^ (4 * i) % 2 ^ 64 ≡ d * 16 ^ i
shifted d i h l =
    let fits : 4 + 4 * i ≤ 64 = omega arith in
    shl_exact 4 (4 * i) 64 h fits ∙ ap (λ (x : ℕ). d * x) (sym (pow-16 i))

-- a digit, by shifting; the first one, and the others by those of the word without it
pub digit_shift : (w i : ℕ) → w / 2 ^ (4 * i) % 16 ≡ digit w i
unfolding digit
digit_shift w i = ap (λ (x : ℕ). w / x % 16) (sym (pow-16 i))

pub digit_lt : (w i : ℕ) → digit w i < 16
unfolding digit
digit_lt w i = mod-lt (w / 16 ^ i) (zero-lt-suc 15)

digit-first : (w : ℕ) → digit w 0 ≡ w % 16
unfolding digit
digit-first w = ap (λ (x : ℕ). x % 16) (div-one w)

digit-next : (w i : ℕ) → digit w (suc i) ≡ digit (w / 16) i
unfolding digit
digit-next w i =
    ap (λ (x : ℕ). w / x % 16) (pow-succ' 16 i) ∙ ap (λ (x : ℕ). x % 16) (sym (div-div-eq-div-mul w 16 (16 ^ i)))

-- the digits from j on, without the first of them
pub digits-rest : (v j : ℕ) → v / 16 ^ j / 16 ≡ v / 16 ^ suc j
digits-rest v j = div-div-eq-div-mul v (16 ^ j) 16 ∙ ap (λ (x : ℕ). v / x) (sym (pow-suc 16 j))

-- a byte of the word is a pair of its digits
pub pair-byte : (w j : ℕ) → w / 256 ^ j % 256 ≡ digit_pair w j
unfolding digit_pair digit
pair-byte w j =
    let v = w / 16 ^ (2 * j) in
    let high : w / 16 ^ suc (2 * j) ≡ v / 16 =
    ap (λ (x : ℕ). w / x) (pow-suc 16 (2 * j)) ∙ sym (div-div-eq-div-mul w (16 ^ (2 * j)) 16) in
    ap (λ (x : ℕ). w / x % 256) (pairs j) ∙ two v ∙ ap (λ (x : ℕ). x % 16 * 16 + v % 16) (sym high)
  where
    pairs : (j : ℕ) → 256 ^ j ≡ 16 ^ (2 * j)
    pairs zero = refl
    pairs (suc j) =
        let e : 2 * j + 2 ≡ 2 * suc j = omega arith in
        pow-suc 256 j ∙ ap (λ (x : ℕ). x * 256) (pairs j) ∙ sym (pow-add 16 (2 * j) 2) ∙ ap (λ (k : ℕ). 16 ^ k) e

    two : (v : ℕ) → v % 256 ≡ v / 16 % 16 * 16 + v % 16
    two v = omega arith

-- from n on a word of n labels has no digits
pub digit-high : (n w k : ℕ) → w < 16 ^ n → n ≤ k → digit w k ≡ 0
unfolding digit
digit-high n w k l h =
    ap (λ (x : ℕ). x % 16) (div-eq_of_lt (lt_of_lt_of_le l (pow-le-pow_right (zero-lt-suc 15) h)))

-- the digits of `&`, `|` and `^`
pub digit_and : (v w i : ℕ) → digit (bit_and v w) i ≡ bit_and (digit v i) (digit w i)
digit_and v w i =
    sym (digit_shift (bit_and v w) i) ∙ ap (λ (x : ℕ). x % 16) (and_shr v w (4 * i))
    ∙ and_mod (v / 2 ^ (4 * i)) (w / 2 ^ (4 * i)) 4
    ∙ ap₂ bit_and (digit_shift v i) (digit_shift w i)

digit_or : (v w i : ℕ) → digit (bit_or v w) i ≡ bit_or (digit v i) (digit w i)
digit_or v w i =
    sym (digit_shift (bit_or v w) i) ∙ ap (λ (x : ℕ). x % 16) (or_shr v w (4 * i))
    ∙ or_mod (v / 2 ^ (4 * i)) (w / 2 ^ (4 * i)) 4
    ∙ ap₂ bit_or (digit_shift v i) (digit_shift w i)

pub digit-xor : (v w i : ℕ) → digit (bit_xor v w) i ≡ bit_xor (digit v i) (digit w i)
digit-xor v w i =
    sym (digit_shift (bit_xor v w) i) ∙ ap (λ (x : ℕ). x % 16) (xor_shr v w (4 * i))
    ∙ xor_mod (v / 2 ^ (4 * i)) (w / 2 ^ (4 * i)) 4
    ∙ ap₂ bit_xor (digit_shift v i) (digit_shift w i)

or-below : (n v w : ℕ) → v < 16 ^ n → w < 16 ^ n → bit_or v w < 16 ^ n
or-below n v w a b =
    let e = pow-16 n in
    rw e (or_lt (4 * n) v w (rw e at a) (rw e at b))

-- one digit at its place
raised : (d to : ℕ) → d * 16 ^ suc to ≡ d * 16 ^ to * 16
raised d to = ap (λ (x : ℕ). d * x) (pow-suc 16 to) ∙ sym (mul_assoc d (16 ^ to) 16)

pub digit-before : (d to k : ℕ) → k < to → digit (d * 16 ^ to) k ≡ 0
digit-before d zero k l = absurd (not-suc-le-zero l)
digit-before d (suc to) zero l =
    digit-first (d * 16 ^ suc to) ∙ ap (λ (x : ℕ). x % 16) (raised d to) ∙ mul-mod_left (d * 16 ^ to) 16
digit-before d (suc to) (suc k) l =
    digit-next (d * 16 ^ suc to) k
    ∙ ap (λ (x : ℕ). digit x k) (ap (λ (x : ℕ). x / 16) (raised d to) ∙ mul-div_cancel (d * 16 ^ to) (zero-lt-suc 15))
    ∙ digit-before d to k (le_of_suc-le-suc l)

module _ (d : ℕ) (h : d < 16) where
  pub placed_below : (to n : ℕ) → to < n → d * 16 ^ to < 16 ^ n
  placed_below to n l =
      let m = digits_lt h (one-le-pow to 16 (zero-lt-suc 15)) in
      lt_of_lt_of_le (omega (arith, pow-succ' 16 to)) (pow-le-pow_right (zero-lt-suc 15) l)

  pub digit-placed : (to : ℕ) → digit (d * 16 ^ to) to ≡ d
  unfolding digit
  digit-placed to =
      ap (λ (x : ℕ). x % 16) (mul-div_cancel d (one-le-pow to 16 (zero-lt-suc 15))) ∙ mod-eq_of_lt h

-- a digit joined to a word of i labels, at position i
module _ (i v d : ℕ) (h : d < 16) where
  pub joined-before : (k : ℕ) → k < i → digit (bit_or v (d * 16 ^ i)) k ≡ digit v k
  joined-before k l =
      digit_or v (d * 16 ^ i) k ∙ ap (bit_or (digit v k)) (digit-before d i k l) ∙ or_zero_r (digit v k)

  module _ (small : v < 16 ^ i) where
    pub joined_at : digit (bit_or v (d * 16 ^ i)) i ≡ d
    joined_at =
        digit_or v (d * 16 ^ i) i ∙ ap₂ bit_or (digit-high i v i small (omega arith)) (digit-placed d h i) ∙ or_zero_l d

    pub joined-below : bit_or v (d * 16 ^ i) < 16 ^ (i + 1)
    joined-below =
        or-below (i + 1) v (d * 16 ^ i) (lt_of_lt_of_le small (pow-le-pow_right (zero-lt-suc 15) (omega arith)))
        (placed_below d h i (i + 1) (omega arith))

-- the labels that a word holds
module _ (n w : ℕ) where
  pub unpack-length : length (unpack n w) ≡ n
  unfolding unpack
  unpack-length = length-tabulate n (digit w)

  pub unpack-at : (i : ℕ) → i < n → get_or (unpack n w) i 0 ≡ digit w i
  unfolding unpack
  unpack-at i l = get_or-tabulate n (digit w) i l

-- the last label stands highest
pub pack-last : (s : List ℕ) (x : ℕ) → pack (s ++ (x ∷ [])) ≡ pack s + x * 16 ^ length s
pack-last [] x = omega (arith, mul-one x)
pack-last (y ∷ s) x = omega (arith, pack-last s x, raised x (length s))

-- packing what was unpacked
pack-digits :
    (n j w v : ℕ) → w < 16 ^ n → ((i : ℕ) → digit v (j + i) ≡ digit w i) → pack (tabulate_from j n (digit v)) ≡ w
pack-digits zero j w v l h = omega arith
pack-digits (suc n) j w v l h =
    ap₂ (λ (x y : ℕ). x * 16 + y)
    (pack-digits n (suc j) (w / 16) v (omega (arith, pow-suc 16 n)) (λ i.
    ap (digit v) (suc-add j i ∙ sym (add-suc j i)) ∙ h (suc i) ∙ digit-next w i))
    (ap (digit v) (sym (add-zero j)) ∙ h 0 ∙ digit-first w)
    ∙ div-add-mod' w 16

pub pack-unpack : (n w : ℕ) → w < 16 ^ n → pack (unpack n w) ≡ w
unfolding unpack
pack-unpack n w l = pack-digits n 0 w w l (λ i. ap (digit w) (zero-add i))

module _ (n v w : ℕ) (lv : v < 16 ^ n) (lw : w < 16 ^ n) where
  pub unpack-injective : unpack n v ≡ unpack n w → v ≡ w
  unpack-injective e = sym (pack-unpack n v lv) ∙ ap pack e ∙ pack-unpack n w lw

  pub same_digits : ((i : ℕ) → i < n → digit v i ≡ digit w i) → v ≡ w
  unfolding unpack
  same_digits h = unpack-injective (tabulate-ext n (digit v) (digit w) h)

-- unpacking what was packed: the labels are digits
abbrev pub Small : List ℕ → Type 0
Small s = (k : ℕ) → k < length s → get_or s k 0 < 16

pub pack-below : (s : List ℕ) → Small s → pack s < 16 ^ length s
pack-below [] h = lit< tt
pack-below (x ∷ s) h =
    rw (pow-suc 16 (length s)) (digits_lt (pack-below s (λ k l. h (suc k) (omega arith))) (h 0 (omega arith)))

digit-pack : (s : List ℕ) → Small s → (i : ℕ) → i < length s → digit (pack s) i ≡ get_or s i 0
digit-pack [] h i l = absurd (not-suc-le-zero l)
digit-pack (x ∷ s) h zero l = digit-first (pack s * 16 + x) ∙ digits_mod (pack s) (h 0 (omega arith))
digit-pack (x ∷ s) h (suc i) l =
    digit-next (pack s * 16 + x) i ∙ ap (λ (y : ℕ). digit y i) (digits_div (pack s) (h 0 (omega arith)))
    ∙ digit-pack s (λ k l. h (suc k) (omega arith)) i (le_of_suc-le-suc l)

pub unpack-pack : (n : ℕ) (s : List ℕ) → length s ≡ n → Small s → unpack n (pack s) ≡ s
unpack-pack n s e h =
    same-list n (unpack n (pack s)) s (unpack-length n (pack s)) e (λ i l.
    unpack-at n (pack s) i l ∙ digit-pack s h i (omega arith))
