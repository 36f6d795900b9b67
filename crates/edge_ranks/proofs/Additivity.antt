-- Labels add to ranks (`additive-first`, `additive-second`): of a compiled block, and sides that stand compiled in the
-- arrays. The code that finds edges asks for these.
use mathlib.Core.Path.{◌≡◌, sym, ap, ◌∙◌}
use mathlib.Core.Logic.{inl, inr, ⊎_elim}
use mathlib.Core.Bool.{true}
use mathlib.Core.List.{List}
use Prim.Native.Nat.{ℕ, suc, ◌+◌, ◌-◌, ◌*◌, ◌/◌, ◌%◌, ◌^◌, ◌≤◌, ◌<◌}
use native.Mathlib.Nat.{div-div-eq-div-mul, mul-div_cancel, div-add-mod', one-le-pow, zero-lt-suc}
use native.Mathlib.Omega.{arith}
use lib.Pow.{pow-add}
use lib.ListN.{get_or, get_or-eq_default}
use Rattle.basics.proofs.Comparing.{below?, trichotomy}
use Rattle.blocks.specs.Terms.{term_of, term_ok}
use Rattle.blocks.specs.Layout.{positions, labels, label_count}
use Rattle.blocks.proofs.StateLaws.{labelled-intro}
use Rattle.words.specs.Code.{position_count}
use Rattle.words.specs.Packing.{digit, unpack}
use Rattle.words.specs.Sides.{rewritten_word}
use Rattle.words.specs.Ranking.{rank_word}
use Rattle.words.specs.Compiled.{Sided, Weighted, Compiled}
use Rattle.words.proofs.WordDigits.{digit_lt, digit-high, digit-before, placed_below, digit-placed, unpack-length}
use Rattle.words.proofs.WordDigits.{unpack-at}
use Rattle.words.proofs.WordRanks.{labels_rank, labels-rank}
use Rattle.words.proofs.Meaning.{rank-word}
use Rattle.edge_ranks.specs.Lists.{first_rank, second_rank, from, Labels, Additive}
use Rattle.edge_ranks.proofs.Exchanges.{Exchanged, drawn-below, exchanged-rewritten, exchanged-ranks}

-- the word without the labels before p has those from p on
from-before : (p w j : ℕ) → j < p → digit (from p w) j ≡ 0
from-before p w j l = digit-before (w / 16 ^ p) p j l

from-behind : (p w j : ℕ) → p ≤ j → digit (from p w) j ≡ digit w j
unfolding digit
from-behind p w j l =
    let d = j - p in
    let e : p + d ≡ j = omega arith in
    let power : 16 ^ j ≡ 16 ^ p * 16 ^ d = ap (λ (i : ℕ). 16 ^ i) (sym e) ∙ pow-add 16 p d in
    let q = w / 16 ^ p in
    let a : q * 16 ^ p / 16 ^ j ≡ q / 16 ^ d =
    ap (λ (x : ℕ). q * 16 ^ p / x) power ∙ sym (div-div-eq-div-mul (q * 16 ^ p) (16 ^ p) (16 ^ d))
    ∙ ap (λ (x : ℕ). x / 16 ^ d) (mul-div_cancel q (one-le-pow p 16 (zero-lt-suc 15))) in
    let b : w / 16 ^ j ≡ q / 16 ^ d = ap (λ (x : ℕ). w / x) power ∙ sym (div-div-eq-div-mul w (16 ^ p) (16 ^ d)) in
    ap (λ (x : ℕ). x % 16) (a ∙ sym b)

from-small : (n p w : ℕ) → w < 16 ^ n → from p w < 16 ^ n
from-small n p w l = omega (arith, div-add-mod' w (16 ^ p))

-- the word 0
digit-zero : (j : ℕ) → digit 0 j ≡ 0
digit-zero j = digit-high 0 0 j (omega arith) (omega arith)

module _ (n : ℕ) where
  -- the label at a position of a word's state, also behind the last one
  label_is : (w j x : ℕ) → digit w j ≡ x → (n ≤ j → x ≡ 0) → get_or (unpack n w) j 0 ≡ x
  label_is w j x e z =
      ⊎_elim (λ l. unpack-at n w j l ∙ e)
      (λ g. get_or-eq_default (unpack n w) 0 (omega (arith, g, unpack-length n w)) ∙ sym (z g)) (below? j n)

  label-cut : (w j : ℕ) → n ≤ j → get_or (unpack n w) j 0 ≡ 0
  label-cut w j g = get_or-eq_default (unpack n w) 0 (omega (arith, g, unpack-length n w))

  -- the four words, of which one has one label more
  pub exchanged-words :
      (w p : ℕ) → p < n
      → Exchanged (unpack n (from p w)) (unpack n (from (suc p) w)) (unpack n (digit w p * 16 ^ p)) (unpack n 0)
  exchanged-words w p low j =
      ⊎_elim
      (λ l.
      let at : (v : ℕ) → get_or (unpack n v) j 0 ≡ digit v j = λ v. unpack-at n v j l in
      let o = at 0 ∙ digit-zero j in
      ⊎_elim
      (λ b. inl (
        at (from p w) ∙ from-before p w j b ∙ sym (at (from (suc p) w) ∙ from-before (suc p) w j (omega arith)),
        at (digit w p * 16 ^ p) ∙ digit-before (digit w p) p j b ∙ sym o,
      ))
      (⊎_elim
      (λ e. inr (
        at (from p w) ∙ from-behind p w j (omega arith) ∙ ap (digit w) e
            ∙ sym (digit-placed (digit w p) (digit_lt w p) p) ∙ ap (digit (digit w p * 16 ^ p)) (sym e)
            ∙ sym (at (digit w p * 16 ^ p)),
        at (from (suc p) w) ∙ from-before (suc p) w j (omega arith) ∙ sym o,
      ))
      (λ b. inl (
        at (from p w) ∙ from-behind p w j (omega arith) ∙ sym (at (from (suc p) w) ∙ from-behind (suc p) w j b),
        at (digit w p * 16 ^ p)
            ∙ digit-high (suc p) (digit w p * 16 ^ p) j
            (placed_below (digit w p) (digit_lt w p) p (suc p) (omega arith)) b
            ∙ sym o,
      )))
      (trichotomy j p))
      (λ g.
      let z : (v : ℕ) → get_or (unpack n v) j 0 ≡ 0 = λ v. label-cut v j g in
      inl (z (from p w) ∙ sym (z (from (suc p) w)), z (digit w p * 16 ^ p) ∙ sym (z 0)))
      (below? j n)

-- a word of n labels below k, also behind the last one
abbrev Low : ℕ → ℕ → ℕ → Type 0
Low n k w = (w < 16 ^ n) × ((j : ℕ) → get_or (unpack n w) j 0 < k)

module _ (n k : ℕ) (some : 0 < k) where
  low-digits : (w : ℕ) → w < 16 ^ n → ((j : ℕ) → j < n → digit w j < k) → Low n k w
  low-digits w l h = (
    l,
    λ j.
        ⊎_elim (λ i. omega (arith, h j i, unpack-at n w j i))
        (λ g. omega (arith, some, label-cut n w j g))
        (below? j n),
  )

  low-from : (w p : ℕ) → Labels n k w → Low n k (from p w)
  low-from w p l =
      low-digits (from p w) (from-small n p w l.0) (λ j i.
      ⊎_elim (λ b. omega (arith, some, from-before p w j b))
      (λ b. omega (arith, l.1 j i, from-behind p w j b))
      (below? j p))

  low-zero : Low n k 0
  low-zero = low-digits 0 (one-le-pow n 16 (zero-lt-suc 15)) (λ j i. omega (arith, some, digit-zero j))

  low-single : (w p : ℕ) → Labels n k w → p < n → Low n k (digit w p * 16 ^ p)
  low-single w p l i =
      let d = digit w p in
      let h = digit_lt w p in
      low-digits (d * 16 ^ p) (placed_below d h p n i) (λ j q.
      ⊎_elim (λ b. omega (arith, some, digit-before d p j b))
      (⊎_elim (λ e. omega (arith, l.1 p i, ap (digit (d * 16 ^ p)) e ∙ digit-placed d h p))
      (λ b. omega (arith, some, digit-high (suc p) (d * 16 ^ p) j (placed_below d h p (suc p) (omega arith)) b)))
      (trichotomy j p))

  -- a side that stands compiled in the arrays
  module _
      (code : List ℕ) (x : ℕ) (left right : ℕ → ℕ) (side : Sided n left right code x)
      (terms : (i : ℕ) → i < n → term_ok k (term_of (right i)) ≡ true) where
    low-made : (w : ℕ) → Low n k w → Low n k (rewritten_word code x w)
    low-made w l = (
      side.small w l.0,
      λ j. rw (side.makes w l.0) (drawn-below n k left right some terms (unpack n w) l.1 j),
    )

    exchanged-made :
        (a b c d : ℕ) → Low n k a → Low n k b → Low n k c → Low n k d
        → Exchanged (unpack n a) (unpack n b) (unpack n c) (unpack n d)
        → Exchanged (unpack n (rewritten_word code x a)) (unpack n (rewritten_word code x b))
        (unpack n (rewritten_word code x c)) (unpack n (rewritten_word code x d))
    exchanged-made a b c d la lb lc ld e =
        rw (side.makes a la.0, side.makes b lb.0, side.makes c lc.0, side.makes d ld.0)
        (exchanged-rewritten n k left right some terms (unpack n a) (unpack n b) (unpack n c) (unpack n d) e)

module _ {b code weights : List ℕ} (c : Compiled b code) (t : Weighted b weights) (some : 0 < labels b) where
  ranks :
      (w : ℕ) → Low (positions b) (labels b) w
      → rank_word weights (positions b) w ≡ labels_rank b (unpack (positions b) w) (positions b)
  unfolding label_count
  ranks w l =
      let s = unpack (positions b) w in
      rank-word t w (labelled-intro (positions b) (label_count b) s (unpack-length (positions b) w) (λ i h. l.1 i))
      ∙ sym (labels-rank b s)

  sums :
      (u v w z : ℕ) → Low (positions b) (labels b) u → Low (positions b) (labels b) v → Low (positions b) (labels b) w
      → Low (positions b) (labels b) z
      → Exchanged (unpack (positions b) u) (unpack (positions b) v) (unpack (positions b) w) (unpack (positions b) z)
      → rank_word weights (positions b) u + rank_word weights (positions b) z
      ≡ rank_word weights (positions b) v + rank_word weights (positions b) w
  sums u v w z lu lv lw lz e =
      rw (ranks u lu, ranks v lv, ranks w lw, ranks z lz)
      (exchanged-ranks b (unpack (positions b) u) (unpack (positions b) v) (unpack (positions b) w)
      (unpack (positions b) z) e (positions b))

  module _
      (x : ℕ) (left right : ℕ → ℕ) (side : Sided (positions b) left right code x)
      (terms : (i : ℕ) → i < positions b → term_ok (labels b) (term_of (right i)) ≡ true) where
    pub additive-first : Additive (position_count code) (labels b) (first_rank code weights x)
    unfolding first_rank
    additive-first =
        let n = positions b in
        let k = labels b in
        let made = low-made n k some code x left right side terms in
        rw c.counted.positions_told (λ w p l i.
        let lf = low-from n k some w p l in
        let lg = low-from n k some w (suc p) l in
        let ls = low-single n k some w p l i in
        let lz = low-zero n k some in
        sums _ _ _ _ (made _ lf) (made _ lg) (made _ ls) (made _ lz)
        (exchanged-made n k some code x left right side terms _ _ _ _ lf lg ls lz (exchanged-words n w p i)))

    module _
        (y : ℕ) (left₂ right₂ : ℕ → ℕ) (side₂ : Sided (positions b) left₂ right₂ code y)
        (terms₂ : (i : ℕ) → i < positions b → term_ok (labels b) (term_of (right₂ i)) ≡ true) where
      pub additive-second : Additive (position_count code) (labels b) (second_rank code weights x y)
      unfolding first_rank second_rank
      additive-second =
          let n = positions b in
          let k = labels b in
          let made = low-made n k some code x left right side terms in
          let made₂ = low-made n k some code y left₂ right₂ side₂ terms₂ in
          rw c.counted.positions_told (λ w p l i.
          let lf = low-from n k some w p l in
          let lg = low-from n k some w (suc p) l in
          let ls = low-single n k some w p l i in
          let lz = low-zero n k some in
          sums _ _ _ _ (made₂ _ (made _ lf)) (made₂ _ (made _ lg)) (made₂ _ (made _ ls)) (made₂ _ (made _ lz))
          (exchanged-made n k some code y left₂ right₂ side₂ terms₂ _ _ _ _
          (made _ lf) (made _ lg) (made _ ls) (made _ lz)
          (exchanged-made n k some code x left right side terms _ _ _ _ lf lg ls lz (exchanged-words n w p i))))
