-- What is written can be read: the line of bytes is right (`written-ok`), has those bytes (`written-bytes`), and lines
-- behind one another are the lines of their text (`written-lines`).
-- That a written exercise is read back rests on these.
use mathlib.Core.Path.{◌≡◌, refl, ap, ap₂, ◌∙◌}
use mathlib.Core.Bool.{Bool, true, false, ◌&&◌}
use mathlib.Core.List.{List, [], ◌∷◌, ◌++◌, map, flat_map}
use Prim.Native.Nat.{ℕ, suc, ◌+◌, ◌*◌, ◌/◌, ◌%◌, ◌≤◌, ◌<◌}
use native.Mathlib.Omega.{arith}
use lib.Dec.{eqb}
use borrow.Author.Tests.{ne_eqb}
use Rattle.basics.specs.Lists.{Bytes}
use Rattle.basics.proofs.Truth.{true-false, and_intro}
use Rattle.frames.specs.Lines.{line_feed, is_digit, digit_value, digit_of, in_front, lines_of, line_ok}
use Rattle.frames.specs.Lines.{line_bytes, line_of}
use Rattle.frames.proofs.DigitLaws.{below, digit-back}

module _ (b : ℕ) (small : b ≤ 255) where
  high_small : b / 16 < 16
  high_small = omega arith

  low_small : b % 16 < 16
  low_small = omega arith

  pair-right : (is_digit (digit_of (b / 16)) && is_digit (digit_of (b % 16))) ≡ true
  pair-right =
      let high = (digit-back (b / 16) high_small).is in
      let low = (digit-back (b % 16) low_small).is in
      and_intro (is_digit (digit_of (b / 16))) (is_digit (digit_of (b % 16))) high low

  pair-back : 16 * digit_value (digit_of (b / 16)) + digit_value (digit_of (b % 16)) ≡ b
  pair-back = omega (arith, (digit-back (b / 16) high_small).value, (digit-back (b % 16) low_small).value)

pub written-ok : (bs : List ℕ) → Bytes bs → line_ok (line_of bs) ≡ true
written-ok [] small = refl
written-ok (b ∷ bs) small = rw (pair-right b (small 0)) (written-ok bs (λ i. small (suc i)))

pub written-bytes : (bs : List ℕ) → Bytes bs → line_bytes (line_of bs) ≡ bs
written-bytes [] small = refl
written-bytes (b ∷ bs) small =
    ap₂ (λ (x : ℕ) (l : List ℕ). x ∷ l) (pair-back b (small 0)) (written-bytes bs (λ i. small (suc i)))

-- a digit is no line feed
no-feed : (c : ℕ) → is_digit c ≡ true → eqb c line_feed ≡ false
no-feed c d = ne_eqb c line_feed (λ e. true-false d (below c (omega arith)).is)

-- a digit in front of lines belongs to the first
joins :
    (c : ℕ) → is_digit c ≡ true → (x l : List ℕ) (ls : List (List ℕ)) → lines_of x ≡ l ∷ ls
    → lines_of (c ∷ x) ≡ (c ∷ l) ∷ ls
joins c d x l ls e = ap₂ (λ (t : Bool) (k : List (List ℕ)). in_front t c k) (no-feed c d) e

written-first : (bs : List ℕ) → Bytes bs → (x : List ℕ) → lines_of (line_of bs ++ x) ≡ line_of bs ∷ lines_of x
written-first [] small x = refl
written-first (b ∷ bs) small x =
    let rest = written-first bs (λ i. small (suc i)) x in
    let low = digit_of (b % 16) in
    let high = digit_of (b / 16) in
    joins high (digit-back (b / 16) (high_small b (small 0))).is (low ∷ line_of bs ++ x) (low ∷ line_of bs) (lines_of x)
    (joins low (digit-back (b % 16) (low_small b (small 0))).is (line_of bs ++ x) (line_of bs) (lines_of x) rest)

-- each list of a list of lists holds bytes
abbrev pub AllBytes : List (List ℕ) → Type 0
AllBytes [] = Unit {0}
AllBytes (f ∷ fs) = Bytes f × AllBytes fs

pub written-lines : (fs : List (List ℕ)) → AllBytes fs → lines_of (flat_map line_of fs) ≡ map line_of fs
unfolding flat_map
written-lines [] small = refl
written-lines (f ∷ fs) small =
    written-first f small.0 (flat_map line_of fs)
    ∙ ap (λ (ls : List (List ℕ)). line_of f ∷ ls) (written-lines fs small.1)
