-- Laws of lines: the line at a place goes up to its line feed (`line-feed`, `line-more`), it is a part of the text
-- (`line-part`), and the lines from a place on are that line and the lines behind it (`lines_from`). The first line is
-- as long as the first line feed tells (`first-long`), and a text that is cut there is that line and those behind it
-- (`lines-cut`).
-- The loops of the reader and of `par` rest on these.
use mathlib.Core.Path.{◌≡◌, refl, sym, ap, ap₂, ◌∙◌, subst}
use mathlib.Core.Logic.{⊎_elim}
use mathlib.Core.Bool.{Bool, true, false, not, cond}
use Rattle.std.specs.Prelude.{Option, Some, None, min, nat_lt}
use Rattle.std.specs.List.{position, position_or_len, IsFirstMatchOrLen}
use Rattle.std.proofs.lemmas.List.Sums.{position_or_len_is}
use mathlib.Core.List.{List, [], ◌∷◌, ◌++◌}
use Prim.Native.Nat.{ℕ, suc, ◌+◌, ◌≤◌, ◌<◌}
use native.Mathlib.Omega.{arith}
use lib.Dec.{eqb}
use lib.ListN.{length, get_or, take, drop, length-take, length-drop, drop_of_length-le}
use lib.Seq.{drop-cons, drop-drop, take_at, drop_at}
use borrow.Author.Tests.{ltb-true, ltb-false, eq-eqb, ne_eqb}
use Rattle.basics.proofs.Truth.{true-false}
use Rattle.basics.proofs.Comparing.{below?, same?}
use Rattle.frames.specs.Lines.{line_feed, in_front, lines_of, line_ok}
use Rattle.frames.specs.Places.{first_line, line_from}

-- a character in front of the first line
front-first : (c : ℕ) (ls : List (List ℕ)) → first_line (in_front false c ls) ≡ c ∷ first_line ls
front-first c [] = refl
front-first c (l ∷ ls) = refl

-- the lines of a text are the first one and the lines behind it
abbrev FirstApart : List (List ℕ) → List ℕ → Type 0
FirstApart ls x = ls ≡ first_line ls ∷ lines_of (drop (length (first_line ls)) x)

lines_split : (c : ℕ) (x : List ℕ) → FirstApart (lines_of (c ∷ x)) (c ∷ x)
lines_split c [] = go (eqb c line_feed)
  where
    go : (t : Bool) → FirstApart (in_front t c []) (c ∷ [])
    go true = refl
    go false = refl
lines_split c (d ∷ y) = go (lines_split d y) (eqb c line_feed)
  where
    go :
        FirstApart (lines_of (d ∷ y)) (d ∷ y) → (t : Bool) → FirstApart (in_front t c (lines_of (d ∷ y))) (c ∷ d ∷ y)
    go ih true = refl
    go ih false = rw (front-first c (lines_of (d ∷ y))) (ap (in_front false c) ih)

lines-some : (x : List ℕ) → 0 < length x → FirstApart (lines_of x) x
lines-some [] l = absurd (omega arith)
lines-some (c ∷ x) l = lines_split c x

-- and the first one is its front
first_taken : (x : List ℕ) → take (length (first_line (lines_of x))) x ≡ first_line (lines_of x)
first_taken [] = refl
first_taken (c ∷ x) = go (first_taken x) (eqb c line_feed)
  where
    go :
        take (length (first_line (lines_of x))) x ≡ first_line (lines_of x)
        → (t : Bool)
        → take (length (first_line (in_front t c (lines_of x)))) (c ∷ x) ≡ first_line (in_front t c (lines_of x))
    go ih true = refl
    go ih false = rw (front-first c (lines_of x)) (ap (λ (l : List ℕ). c ∷ l) ih)

-- how long the first line is, by where the first line feed of a text stands
abbrev pub up_to : List ℕ → Option ℕ → ℕ
up_to x (Some i) = i + 1
up_to x None = length x

abbrev pub is_feed : ℕ → Bool
is_feed c = eqb c line_feed

first_long : (x : List ℕ) → length (first_line (lines_of x)) ≡ min (suc (position_or_len is_feed x)) (length x)
first_long [] = refl
first_long (c ∷ x) = go (first_long x) (eqb c line_feed)
  where
    go :
        length (first_line (lines_of x)) ≡ min (suc (position_or_len is_feed x)) (length x)
        → (t : Bool)
        → length (first_line (in_front t c (lines_of x)))
        ≡ min (suc (cond (not t) (1 + position_or_len is_feed x) 0)) (suc (length x))
    go ih true = omega arith
    go ih false = rw (front-first c (lines_of x)) (omega (arith, ih))

pub first-long : (x : List ℕ) → length (first_line (lines_of x)) ≡ up_to x (position is_feed x)
first-long x = go (nat_lt (position_or_len is_feed x) (length x)) refl
  where
    go :
        (t : Bool) → nat_lt (position_or_len is_feed x) (length x) ≡ t
        → length (first_line (lines_of x)) ≡ up_to x (cond t (Some (position_or_len is_feed x)) None)
    go true h = omega (arith, first_long x, ltb-true (position_or_len is_feed x) (length x) h)
    go false h = omega (arith, first_long x, ltb-false (position_or_len is_feed x) (length x) h)

-- a text that is cut behind its first line feed
pub lines-cut :
    (x line rest : List ℕ) (i : ℕ) → x ≡ line ++ rest → 0 < length x → length line ≡ min (i + 1) (length x)
    → IsFirstMatchOrLen is_feed x i → lines_of x ≡ line ∷ lines_of rest
lines-cut x line rest i e some long at =
    let j = min i (length x) in
    let none : (k : ℕ) → k < j → is_feed (get_or x k 0) ≡ false = λ k h. at.0 k 0 (omega arith) (omega arith) in
    let feed : j < length x → is_feed (get_or x j 0) ≡ true =
    λ h.
    let same : i ≡ j = omega arith in
    subst (λ (k : ℕ). is_feed (get_or x k 0) ≡ true) same (at.1 (omega arith) 0) in
    let first = position_or_len_is is_feed x j 0 (omega arith) none feed in
    let n : length (first_line (lines_of x)) ≡ length line = omega (arith, first_long x, first, long) in
    let taken : take (length line) x ≡ line = ap (take (length line)) e ∙ take_at line rest (length line) refl in
    let left : drop (length line) x ≡ rest = ap (drop (length line)) e ∙ drop_at line rest (length line) refl in
    lines-some x some
    ∙ ap₂ (λ (l r : List ℕ). l ∷ lines_of r)
    (sym (first_taken x) ∙ ap (λ (k : ℕ). take k x) n ∙ taken)
    (ap (λ (k : ℕ). drop k x) n ∙ left)

module _ (x : List ℕ) (at : ℕ) where
  -- behind the end there is no line
  pub line-none : length x ≤ at → line_from x at ≡ []
  unfolding line_from
  line-none l = ap (λ (y : List ℕ). first_line (lines_of y)) (drop_of_length-le x l)

  -- it is a part of the text
  pub line-part : take (length (line_from x at)) (drop at x) ≡ line_from x at
  unfolding line_from
  line-part = first_taken (drop at x)

  module _ (inside : at < length x) where
    -- what stands from the place on, its first character apart
    apart : drop at x ≡ get_or x at 0 ∷ drop (suc at) x
    apart = drop-cons x at 0 inside

    pub line-feed : get_or x at 0 ≡ line_feed → line_from x at ≡ get_or x at 0 ∷ []
    unfolding line_from
    line-feed e = rw (apart, eq-eqb (get_or x at 0) line_feed e)

    pub line-more : (get_or x at 0 ≡ line_feed → ⊥) → line_from x at ≡ get_or x at 0 ∷ line_from x (suc at)
    unfolding line_from
    line-more n =
        rw (apart, ne_eqb (get_or x at 0) line_feed n) (front-first (get_or x at 0) (lines_of (drop (suc at) x)))

    -- the lines from the place on
    pub lines_from : lines_of (drop at x) ≡ line_from x at ∷ lines_of (drop (at + length (line_from x at)) x)
    unfolding line_from
    lines_from =
        lines-some (drop at x) (omega (arith, length-drop at x))
        ∙ ap (λ (y : List ℕ). line_from x at ∷ lines_of y) (drop-drop (length (line_from x at)) at x)

    -- it has a character
    pub line-some : 1 ≤ length (line_from x at)
    line-some =
        ⊎_elim (λ e. rw (line-feed e) (omega arith)) (λ n. rw (line-more n) (omega arith))
        (same? (get_or x at 0) line_feed)

  -- and ends in the text
  pub line-inside : at ≤ length x → at + length (line_from x at) ≤ length x
  line-inside l =
      omega (arith, ap length line-part, length-take (length (line_from x at)) (drop at x), length-drop at x)

  -- a line that is right is there
  pub line-there : line_ok (line_from x at) ≡ true → at < length x
  line-there ok = ⊎_elim (λ l. l) (λ l. absurd (true-false ok (ap line_ok (line-none l)))) (below? at (length x))
