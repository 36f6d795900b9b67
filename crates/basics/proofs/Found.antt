-- What the library's `position` finds in a list is what `find` does over its indices (`position-find`), and
-- of a part of it too (`find-part`). The proof of the search for a byte in a slice rests on it.
use Rattle.std.proofs.Common.{◌≡◌, refl, ap, ◌∙◌, Bool, true, false, ℕ, ◌≤◌, List}
use Rattle.std.proofs.Common.{length, get_or, take, drop, eqb, ◌+◌, ◌-◌, ◌==◌, arith}
use borrow.Author.Tests.{lt-ltb, le-ltb}
use Rattle.std.specs.List.{position, slice_range}
use Rattle.std.proofs.lemmas.List.{length-drop, length-take-le, get_or-drop, get_or-take}
use Rattle.std.proofs.lemmas.List.Sums.{position_or_len_is}
use Rattle.basics.specs.Bounded.{some, first, find}
use Rattle.basics.proofs.Bounded.{first_holds, first-least, some-false, find-ext}

module _ (p : ℕ → Bool) (xs : List ℕ) where
  abbrev at : ℕ → Bool
  at j = p (get_or xs j 0)

  pub position-find : position p xs ≡ find (length xs) (λ j. p (get_or xs j 0))
  position-find = go (some (length xs) at) refl
    where
      go : (t : Bool) → some (length xs) at ≡ t → position p xs ≡ find (length xs) at
      go true e =
          let h = first_holds at (length xs) e in
          let same =
          position_or_len_is p xs (first (length xs) at) 0 (omega arith) (first-least at (length xs)) (λ l. h.1) in
          rw (same, e, lt-ltb _ _ h.0) refl
      go false e =
          let same =
          position_or_len_is p xs (length xs) 0 (omega arith) (some-false at (length xs) e)
          (λ l. absurd (omega arith)) in
          rw (same, e, le-ltb (length xs) (length xs) (omega arith)) refl

-- the same over n elements from a place on
pub find-part :
    (xs : List ℕ) (at n v : ℕ) → at + n ≤ length xs
    → find (length (slice_range xs at (at + n))) (λ j. get_or (slice_range xs at (at + n)) j 0 == v)
    ≡ find n (λ j. eqb (get_or xs (at + j) 0) v)
find-part xs at n v l =
    let room : n ≤ length (drop at xs) = omega (arith, length-drop at xs) in
    let width : at + n - at ≡ n = omega arith in
    let long : length (slice_range xs at (at + n)) ≡ n =
    ap (λ (k : ℕ). length (take k (drop at xs))) width ∙ length-take-le n (drop at xs) room in
    ap (λ (k : ℕ). find k (λ j. get_or (slice_range xs at (at + n)) j 0 == v)) long
    ∙ find-ext (λ j. get_or (slice_range xs at (at + n)) j 0 == v) (λ j. eqb (get_or xs (at + j) 0) v) n
    (λ j k. ap (λ (y : ℕ). eqb y v) (get_or-take (at + n - at) (drop at xs) j 0 (omega arith) ∙ get_or-drop at xs j 0))
