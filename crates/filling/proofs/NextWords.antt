-- The word of the next rank, label by label from the last position on: while the labels
-- passed begin again, the word's first i labels are those of a number q, and the next word's
-- those of q + 1 (`Counting`). A label that can rise ends it (`counting-up`), one that cannot
-- begins again (`counting-on`). The code that writes the words of all ranks rests on these.
use mathlib.Core.Path.{◌≡◌, refl, sym, ap, ap₂, ◌∙◌}
use mathlib.Core.List.{List}
use Prim.Native.Nat.{ℕ, suc, ◌+◌, ◌*◌, ◌/◌, ◌%◌, ◌^◌, ◌≤◌, ◌<◌}
use native.Mathlib.Nat.{mod-eq_of_lt, mod-lt, div-add-mod', add-mul, one-mul, zero-mul, add_comm}
use native.Mathlib.Omega.{arith}
use lib.Arith.{digits_div, digits_mod}
use Rattle.basics.specs.Digits.{digits}
use Rattle.basics.proofs.Digits.{length_digits, digit-below}
use Rattle.blocks.specs.Layout.{positions, abstract_count}
use Rattle.blocks.specs.Validity.{Headed}
use Rattle.blocks.proofs.StateLaws.{some-abstract, abstract-count-low}
use Rattle.psvn.specs.Ranks.{unrank}
use Rattle.words.specs.Packing.{digit, pack}
use Rattle.words.specs.Ranking.{word_of}
use Rattle.words.proofs.WordDigits.{pack-last, pack-below, power-fits}

abbrev pub Counting : List ℕ → ℕ → ℕ → ℕ → Type 0
Counting b u next i =
    (q : ℕ) × (next ≡ pack (digits (abstract_count b) i q))
    × (word_of b (u + 1) ≡ pack (digits (abstract_count b) i (q + 1)))

module _ (b : List ℕ) (h : Headed b) where
  pub counting-first : (u word : ℕ) → word ≡ word_of b u → Counting b u word (positions b)
  unfolding word_of unrank
  counting-first u word e = (u, e, refl)

  pub counting-end : (u next : ℕ) → Counting b u next 0 → next ≡ word_of b (u + 1)
  counting-end u next (q, a, c) = a ∙ sym c

  -- the word of the first m labels of a number is small
  small : (m v : ℕ) → pack (digits (abstract_count b) m v) < 16 ^ m
  small m v =
      let s = digits (abstract_count b) m v in
      let e = length_digits (abstract_count b) m v in
      rw e at (pack-below s (λ k l.
      omega (
        arith,
        digit-below (abstract_count b) (some-abstract b h) m v k (omega (arith, l, e)),
        abstract-count-low b h k,
      )))

  -- one label more
  last :
      (m v : ℕ)
      → pack (digits (abstract_count b) (suc m) v)
      ≡ pack (digits (abstract_count b) m (v / abstract_count b m)) + v % abstract_count b m * 16 ^ m
  last m v =
      let s = digits (abstract_count b) m (v / abstract_count b m) in
      pack-last s (v % abstract_count b m)
      ∙ ap (λ (k : ℕ). pack s + v % abstract_count b m * 16 ^ k)
      (length_digits (abstract_count b) m (v / abstract_count b m))

  module _ (m q : ℕ) where
    low : q % abstract_count b m < abstract_count b m
    low = mod-lt q (some-abstract b h m)

    split : (next : ℕ) → next ≡ pack (digits (abstract_count b) (suc m) q)
        → next ≡ q % abstract_count b m * 16 ^ m + pack (digits (abstract_count b) m (q / abstract_count b m))
    split next e = e ∙ last m q ∙ add_comm _ _

    here : (next : ℕ) → next ≡ pack (digits (abstract_count b) (suc m) q) → digit next m ≡ q % abstract_count b m
    unfolding digit
    here next e =
        ap (λ (x : ℕ). x / 16 ^ m % 16) (split next e)
        ∙ ap (λ (x : ℕ). x % 16) (digits_div (q % abstract_count b m) (small m (q / abstract_count b m)))
        ∙ mod-eq_of_lt (omega (arith, low, abstract-count-low b h m))

    rest :
        (next : ℕ) → next ≡ pack (digits (abstract_count b) (suc m) q)
        → next % 16 ^ m ≡ pack (digits (abstract_count b) m (q / abstract_count b m))
    rest next e =
        ap (λ (x : ℕ). x % 16 ^ m) (split next e)
        ∙ digits_mod (q % abstract_count b m) (small m (q / abstract_count b m))

    whole : q / abstract_count b m * abstract_count b m + q % abstract_count b m ≡ q
    whole = div-add-mod' q (abstract_count b m)

    -- the last label can rise
    risen :
        (next : ℕ) → next ≡ pack (digits (abstract_count b) (suc m) q) → q % abstract_count b m + 1 < abstract_count b m
        → next + 16 ^ m ≡ pack (digits (abstract_count b) (suc m) (q + 1))
    risen next e l =
        let c = abstract_count b m in
        let up : q + 1 ≡ q / c * c + (q % c + 1) = omega (arith, whole) in
        let d : (q + 1) / c ≡ q / c = ap (λ (x : ℕ). x / c) up ∙ digits_div (q / c) l in
        let r : (q + 1) % c ≡ q % c + 1 = ap (λ (x : ℕ). x % c) up ∙ digits_mod (q / c) l in
        let f = last m (q + 1) ∙ ap₂ (λ (x y : ℕ). pack (digits (abstract_count b) m x) + y * 16 ^ m) d r in
        omega (arith, f, e ∙ last m q, add-mul (q % c) 1 (16 ^ m), one-mul (16 ^ m))

    -- it cannot
    begun : q % abstract_count b m + 1 ≡ abstract_count b m
        → pack (digits (abstract_count b) (suc m) (q + 1))
        ≡ pack (digits (abstract_count b) m (q / abstract_count b m + 1))
    begun l =
        let c = abstract_count b m in
        let up : q + 1 ≡ (q / c + 1) * c + 0 = omega (arith, whole, add-mul (q / c) 1 c, one-mul c) in
        let p = some-abstract b h m in
        let d : (q + 1) / c ≡ q / c + 1 = ap (λ (x : ℕ). x / c) up ∙ digits_div (q / c + 1) p in
        let r : (q + 1) % c ≡ 0 = ap (λ (x : ℕ). x % c) up ∙ digits_mod (q / c + 1) p in
        let f = last m (q + 1) ∙ ap₂ (λ (x y : ℕ). pack (digits (abstract_count b) m x) + y * 16 ^ m) d r in
        omega (arith, f, zero-mul (16 ^ m))

  pub counting-up :
      (u next m : ℕ) → Counting b u next (suc m) → m < 16 → digit next m + 1 < abstract_count b m
      → (next + 16 ^ m ≡ word_of b (u + 1)) × (next + 16 ^ m < 2 ^ 64)
  counting-up u next m (q, a, c) i l =
      let e = risen m q next a (omega (arith, l, here m q next a)) in
      (e ∙ sym c, omega (arith, e, small (suc m) (q + 1), power-fits (suc m) (omega arith)))

  pub counting-on :
      (u next m : ℕ) → Counting b u next (suc m) → abstract_count b m ≤ digit next m + 1
      → Counting b u (next % 16 ^ m) m
  counting-on u next m (q, a, c) l =
      (q / abstract_count b m, rest m q next a, c ∙ begun m q (omega (arith, l, here m q next a, low m q)))
