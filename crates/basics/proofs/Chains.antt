-- What a chain of the library answers over the numbers below n (`all-below`, `find-below` and `found-below`, for its
-- `all`, `position` and `find`) or over a list (`all-slice`) is what `all` and `find` say.
-- Proofs of such chains rest on these.
use Rattle.std.proofs.Common.{◌≡◌, refl, sym, ◌∙◌, subst, ap, Bool, true, false, ℕ, ◌<◌, List, length, get_or}
use Rattle.std.proofs.Common.{Option, None, Some, zero-add, arith}
use denote.Param.Members.{Mut}
use Rattle.std.specs.Bool.{MatchBool}
use Rattle.std.specs.Fn.{Called}
use Rattle.std.specs.Iterator.{YieldsThen}
use Rattle.std.specs.declared.ops.Range.{Range}
use Rattle.std.proofs.iter.Yields.{nat_range_steps}
use Rattle.std.proofs.lemmas.Iterator.{cases_from_all, YieldsList-from_range}
use Rattle.std.specs.Option.{MatchOption}
use Rattle.std.specs.List.{range_with_len, FoldsTo, AllWithin, HoldsAt}
use Rattle.std.proofs.lemmas.List.FromFn.{length-range_with_len, get_or-range_with_len}
use Rattle.basics.specs.Bounded.{all, find}
use Rattle.basics.proofs.Bounded.{all-intro, all-false, find_at, find-passed}

module _ (n : ℕ) (f : ℕ → Bool) where
  abbrev pub numbers : List ℕ
  numbers = range_with_len 0 n

  within : (k : ℕ) → k < length numbers → k < n
  within k l = omega (arith, length-range_with_len 0 n)

  spot : (k d : ℕ) → k < length numbers → get_or numbers k d ≡ k
  spot k d l = get_or-range_with_len 0 n k d (within k l) ∙ zero-add k

  -- what holds at a place of the list holds of its number
  here : (b : Bool) (k : ℕ) → k < length numbers → f (get_or numbers k 0) ≡ b → (k < n) × (f k ≡ b)
  here b k l h = (within k l, subst (λ (x : ℕ). f x ≡ b) (spot k 0 l) h)

  each : (b : Bool) → AllWithin (λ x. f x ≡ b) numbers 0 (length numbers) → (k : ℕ) → k < n → f k ≡ b
  each b h k l =
      let m : k < length numbers = omega (arith, length-range_with_len 0 n) in
      (here b k m (h k 0 (omega arith) m)).1

  pub all-below :
      (r : Bool)
      → MatchBool r (AllWithin (λ x. f x ≡ true) numbers 0 (length numbers))
      ((k : ℕ) × (k < length numbers) × HoldsAt (λ x. f x ≡ false) numbers k)
      → r ≡ all n f
  all-below true h = sym (all-intro f n (each true h))
  all-below false (k, l, h) =
      let a = here false k l (h 0) in
      sym (all-false f n k a.0 a.1)

  pub find-below :
      (r : Option ℕ)
      → MatchOption r (AllWithin (λ x. f x ≡ false) numbers 0 (length numbers))
      (λ i. (i < length numbers) × HoldsAt (λ x. f x ≡ true) numbers i × AllWithin (λ x. f x ≡ false) numbers 0 i)
      → r ≡ find n f
  find-below None h = sym (find-passed f n n (omega arith) (each false h))
  find-below (Some i) (l, h, e) =
      let a = here true i l (h 0) in
      sym (find_at f n i a.0 a.1 (λ k m. (here false k (omega arith) (e k 0 (omega arith) m)).1))

  pub found-below :
      (r : Option ℕ)
      → MatchOption r (AllWithin (λ x. f x ≡ false) numbers 0 (length numbers))
      (λ x. (f x ≡ true) × (i : ℕ) × (i < length numbers) × HoldsAt (λ y. y ≡ x) numbers i
      × AllWithin (λ x. f x ≡ false) numbers 0 i)
      → r ≡ find n f
  found-below None h = find-below None h
  found-below (Some x) (h, i, l, at, e) =
      let q : x ≡ i = sym (at 0) ∙ spot i 0 l in
      ap Some q ∙ find-below (Some i) (l, λ d. rw (spot i d l, sym q) h, e)

module _ (xs : List ℕ) (f : ℕ → Bool) where
  pub all-slice :
      (r : Bool)
      → MatchBool r (AllWithin (λ x. f x ≡ true) xs 0 (length xs))
      ((k : ℕ) × (k < length xs) × HoldsAt (λ x. f x ≡ false) xs k)
      → r ≡ all (length xs) (λ k. f (get_or xs k 0))
  all-slice true h = sym (all-intro (λ k. f (get_or xs k 0)) (length xs) (λ k l. h k 0 (omega arith) l))
  all-slice false (k, l, h) = sym (all-false (λ k. f (get_or xs k 0)) (length xs) k l (h 0))

-- what `(0..n).all(..)` answers, by what the closure answers at each number
pub all-numbers :
    {F : Type 0} {g : Mut F (ℕ × Unit {0}) Bool} {u : Range ℕ} {f : F} (n : ℕ) (test : ℕ → Bool) (r : Bool)
    → (xs : List ℕ) × (o : Option ℕ) × (j : F) × YieldsThen nat_range_steps (record { start = 0; end = n }) xs o u
    × FoldsTo (λ p x q. Called g p (x, tt) true q) f xs j
    × MatchOption o (r ≡ true) (λ x. (r ≡ false) × ((h : F) × Called g j (x, tt) false h))
    → ((x : ℕ) (q : F) → Called g f (x, tt) true q → (q ≡ f) × (test x ≡ true))
    → ((x : ℕ) (q : F) → Called g f (x, tt) false q → test x ≡ false)
    → r ≡ all n test
all-numbers {g = g} {u = u} {f = f} n test r ran holds fails =
    all-below n test r
    (cases_from_all {g = g} u f r (λ x. test x ≡ true) (λ x. test x ≡ false) ran
    (YieldsList-from_range 0 n n refl (omega arith)) holds fails)
