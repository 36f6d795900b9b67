-- Inside a line: it has half as many bytes as characters (`half_length`), its pairs (`pair-here`) make bytes
-- (`pair-bytes`, `no_bytes`), its end and the digits before it tell whether it is right (`ended_ok`), and the line of
-- bytes is written byte by byte (`byte-apart`, `line-length`).
-- The functions that test, read and write one line rest on these.
use mathlib.Core.Path.{◌≡◌, refl, sym, ap, ap₂, ◌∙◌}
use mathlib.Core.Bool.{Bool, true, false, ◌&&◌}
use mathlib.Core.List.{List, [], ◌∷◌, ◌++◌}
use Prim.Native.Nat.{ℕ, zero, suc, ◌+◌, ◌*◌, ◌/◌, ◌%◌, ◌≤◌, ◌<◌}
use native.Mathlib.Omega.{arith}
use native.Mathlib.Numerals.{add-one}
use lib.Dec.{eqb}
use lib.ListN.{length, get_or, take, drop, length-drop}
use Rattle.std.proofs.Common.{get_or-drop}
use Rattle.std.specs.List.{list_all}
use Rattle.std.specs.Simd.{first_chunks}
use Rattle.basics.proofs.Truth.{and-right-true, and-right-false}
use lib.Seq.{drop-cons}
use Rattle.frames.specs.Lines.{line_feed, is_digit, digit_value, digit_of, line_ok, line_bytes, line_of}

-- two digits a byte
pub half_length : (l : List ℕ) → length (line_bytes l) ≡ length l / 2
half_length [] = refl
half_length (c ∷ []) = refl
half_length (c ∷ d ∷ l) = omega (arith, half_length l)

-- a line from i on, its first pair apart
module _ (l : List ℕ) (i : ℕ) where
  pair-apart : i + 1 < length l → drop i l ≡ get_or l i 0 ∷ get_or l (i + 1) 0 ∷ drop (i + 2) l
  pair-apart h =
      let e : suc (i + 1) ≡ i + 2 = omega arith in
      drop-cons l i 0 (omega arith)
      ∙ ap (λ (k : ℕ). get_or l i 0 ∷ drop k l) (sym (add-one i))
      ∙ ap (λ (y : List ℕ). get_or l i 0 ∷ y)
      (drop-cons l (i + 1) 0 h ∙ ap (λ (k : ℕ). get_or l (i + 1) 0 ∷ drop k l) e)

  pub pair-bytes :
      i + 1 < length l
      → line_bytes (drop i l)
      ≡ (16 * digit_value (get_or l i 0) + digit_value (get_or l (i + 1) 0)) ∷ line_bytes (drop (i + 2) l)
  pair-bytes h = ap line_bytes (pair-apart h)

-- the line of bytes from i on: the digits of the first one, and the rest
pub byte-apart :
    (bytes : List ℕ) (i : ℕ) → i < length bytes
    → line_of (drop i bytes)
    ≡ digit_of (get_or bytes i 0 / 16) ∷ digit_of (get_or bytes i 0 % 16) ∷ line_of (drop (i + 1) bytes)
byte-apart bytes i l =
    let b = get_or bytes i 0 in
    ap line_of (drop-cons bytes i 0 l)
    ∙ ap (λ (k : ℕ). digit_of (b / 16) ∷ digit_of (b % 16) ∷ line_of (drop k bytes)) (sym (add-one i))

-- the pairs of a line: two characters each
pub pair-here :
    (l : List ℕ) (k i : ℕ) → 2 * k ≤ length l → i < k
    → get_or (first_chunks 2 k l) i [] ≡ get_or l (2 * i) 0 ∷ get_or l (2 * i + 1) 0 ∷ []
pair-here l zero i h p = absurd (omega arith)
pair-here l (suc k) zero h p = ap (take 2) (pair-apart l 0 (omega arith))
pair-here l (suc k) (suc i) h p =
    let even : 2 * k ≤ length (drop 2 l) = omega (arith, length-drop 2 l) in
    let first : 2 + 2 * i ≡ 2 * suc i = omega arith in
    let second : 2 + (2 * i + 1) ≡ 2 * suc i + 1 = omega arith in
    pair-here (drop 2 l) k i even (omega arith)
    ∙ ap₂ (λ (a b : ℕ). a ∷ b ∷ []) (get_or-drop 2 l (2 * i) 0 ∙ ap (λ (j : ℕ). get_or l j 0) first)
    (get_or-drop 2 l (2 * i + 1) 0 ∙ ap (λ (j : ℕ). get_or l j 0) second)

-- a line by its last character and those before it
shuffled : (a b f e r : Bool) → ((a && b) && (f && (e && r))) ≡ (f && (e && (a && (b && r))))
shuffled true true f e r = refl
shuffled true false true true r = refl
shuffled true false true false r = refl
shuffled true false false e r = refl
shuffled false b true true r = refl
shuffled false b true false r = refl
shuffled false b false e r = refl

pub ended_ok :
    (digits : List ℕ) (last : ℕ)
    → line_ok (digits ++ (last ∷ []))
    ≡ (eqb last line_feed && (eqb (length digits % 2) 0 && list_all is_digit digits))
ended_ok [] last = sym (and-right-true (eqb last line_feed))
ended_ok (c ∷ []) last =
    and-right-false (is_digit c && is_digit last) false refl ∙ sym (and-right-false (eqb last line_feed) false refl)
ended_ok (c ∷ d ∷ digits) last =
    let e : suc (suc (length digits)) % 2 ≡ length digits % 2 = omega arith in
    ap (λ (t : Bool). (is_digit c && is_digit d) && t) (ended_ok digits last)
    ∙ shuffled (is_digit c) (is_digit d) (eqb last line_feed) (eqb (length digits % 2) 0) (list_all is_digit digits)
    ∙ ap
    (λ (k : ℕ). eqb last line_feed && (eqb k 0 && (is_digit c && (is_digit d && list_all is_digit digits)))) (sym e)

-- a single character makes no byte
pub no_bytes : (l : List ℕ) → length l ≤ 1 → line_bytes l ≡ []
no_bytes [] h = refl
no_bytes (c ∷ []) h = refl
no_bytes (c ∷ d ∷ l) h = absurd (omega arith)

-- and its line has two digits for each, and the line feed
pub line-length : (bytes : List ℕ) → length (line_of bytes) ≡ 2 * length bytes + 1
line-length [] = refl
line-length (b ∷ bytes) = omega (arith, line-length bytes)
