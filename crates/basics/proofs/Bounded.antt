-- Laws of `all`, `some`, `first`, `find` and `last`: what they say at each number below the bound, how to show them,
-- and that they go by the test's values alone. The proofs of every scanning loop, of matching and of relabelling rest
-- on these.
use mathlib.Core.Path.{◌≡◌, refl, sym, ap, ap₂, ◌∙◌}
use mathlib.Core.Logic.{◌⊎◌, ⊎_elim}
use mathlib.Core.Bool.{Bool, true, false, cond, not, ◌&&◌, ◌||◌, true≢false}
use Rattle.std.specs.Prelude.{None, Some, is_some}
use Rattle.std.proofs.lemmas.Option.{none-some, same_Some}
use Prim.Native.Nat.{ℕ, zero, suc, ◌+◌, ◌≤◌, ◌<◌}
use native.Mathlib.Nat.{eq-or-lt_of_le, le_of_suc-le-suc, not-suc-le-zero, add-zero, add-suc}
use native.Mathlib.Omega.{arith}
use lib.Dec.{ltb}
use borrow.Author.Tests.{lt-ltb, le-ltb, not-true, not-false}
use Rattle.basics.specs.Bounded.{all, some, first, find, last}
use Rattle.basics.proofs.Comparing.{below?}
use Rattle.basics.proofs.Truth.{true-false, and-true, and_intro, and-right-true, and-right-false, and-swap}
use Rattle.basics.proofs.Truth.{or-false}

below : {i n : ℕ} → i < suc n → (i ≡ n) ⊎ (i < n)
below h = eq-or-lt_of_le (le_of_suc-le-suc h)

module _ (f : ℕ → Bool) where
  pub all-at : (n : ℕ) → all n f ≡ true → (i : ℕ) → i < n → f i ≡ true
  all-at zero h i l = absurd (not-suc-le-zero l)
  all-at (suc n) h i l =
      ⊎_elim (λ e. rw e (and-true (all n f) (f n) h).1) (λ k. all-at n (and-true (all n f) (f n) h).0 i k) (below l)

  pub all-intro : (n : ℕ) → ((i : ℕ) → i < n → f i ≡ true) → all n f ≡ true
  all-intro zero h = refl
  all-intro (suc n) h = and_intro (all n f) (f n) (all-intro n (λ i l. h i (omega arith))) (h n (omega arith))

  -- what a scan shows that passed all
  pub all-passed : (n i : ℕ) → n ≤ i → ((k : ℕ) → k < i → f k ≡ true) → all n f ≡ true
  all-passed n i l h = all-intro n (λ k m. h k (omega arith))

  pub all-false : (n i : ℕ) → i < n → f i ≡ false → all n f ≡ false
  all-false zero i l h = absurd (not-suc-le-zero l)
  all-false (suc n) i l h =
      ⊎_elim (λ e. and-right-false (all n f) (f n) (rw e at h))
      (λ k. ap (λ (t : Bool). t && f n) (all-false n i k h))
      (below l)

  -- where not each number passes, one fails
  pub all-fails : (n : ℕ) → all n f ≡ false → (i : ℕ) × (i < n) × (f i ≡ false)
  all-fails zero h = absurd (true≢false h)
  all-fails (suc n) h = go (all-fails n) (all n f) refl (f n) refl
    where
      go :
          (all n f ≡ false → (i : ℕ) × (i < n) × (f i ≡ false)) → (t : Bool) → all n f ≡ t → (u : Bool) → f n ≡ u
          → (i : ℕ) × (i < suc n) × (f i ≡ false)
      go ih false e u d = let k = ih e in (k.0, let m = k.1 in omega arith, k.2)
      go ih true e false d = (n, omega arith, d)
      go ih true e true d = absurd (true-false (and_intro (all n f) (f n) e d) h)

  -- numbers from m on at which the test holds do not matter
  pub all_past : (n m : ℕ) → m ≤ n → ((k : ℕ) → m ≤ k → k < n → f k ≡ true) → all n f ≡ all m f
  all_past zero m l h = let e : m ≡ 0 = omega arith in rw e refl
  all_past (suc n) m l h =
      ⊎_elim (λ e. ap (λ (k : ℕ). all k f) (sym e))
      (λ k.
      ap (λ (t : Bool). all n f && t) (h n (le_of_suc-le-suc k) (omega arith)) ∙ and-right-true (all n f)
      ∙ all_past n m (le_of_suc-le-suc k) (λ j a b. h j a (omega arith)))
      (eq-or-lt_of_le l)

  pub some-false : (n : ℕ) → some n f ≡ false → (i : ℕ) → i < n → f i ≡ false
  some-false zero h i l = absurd (not-suc-le-zero l)
  some-false (suc n) h i l =
      ⊎_elim (λ e. rw e (or-false (some n f) (f n) h).1)
      (λ k. some-false n (or-false (some n f) (f n) h).0 i k)
      (below l)

  pub some-none : (n : ℕ) → ((i : ℕ) → i < n → f i ≡ false) → some n f ≡ false
  some-none zero h = refl
  some-none (suc n) h = rw (some-none n (λ i l. h i (omega arith)), h n (omega arith))

  pub some-passed : (n i : ℕ) → n ≤ i → ((k : ℕ) → k < i → f k ≡ false) → some n f ≡ false
  some-passed n i l h = some-none n (λ k m. h k (omega arith))

  pub some-intro : (n i : ℕ) → i < n → f i ≡ true → some n f ≡ true
  some-intro n i l h = go (some n f) refl
    where
      go : (t : Bool) → some n f ≡ t → some n f ≡ true
      go true e = e
      go false e = absurd (true-false h (some-false n e i l))

  pub first-none : (n : ℕ) → some n f ≡ false → first n f ≡ n
  first-none zero h = refl
  first-none (suc n) h = let q = or-false (some n f) (f n) h in rw (q.0, q.1)

  -- where the test holds at some number below n, it holds at the first one
  first_step :
      (n : ℕ) (t : Bool) → some n f ≡ t → (u : Bool) → f n ≡ u → (t || u) ≡ true
      → (some n f ≡ true → (first n f < n) × (f (first n f) ≡ true))
      → (first (suc n) f < suc n) × (f (first (suc n) f) ≡ true)
  first_step n true e u q h ih = rw e (let k = (ih e).0 in omega arith, (ih e).1)
  first_step n false e true q h ih = rw (e, q) (omega arith, q)
  first_step n false e false q h ih = absurd (true≢false (sym h))

  pub first_holds : (n : ℕ) → some n f ≡ true → (first n f < n) × (f (first n f) ≡ true)
  first_holds zero h = absurd (true≢false (sym h))
  first_holds (suc n) h = first_step n (some n f) refl (f n) refl h (first_holds n)

  -- and at no number before it
  first-least-step :
      (n : ℕ) (t : Bool) → some n f ≡ t → (u : Bool) → f n ≡ u → ((i : ℕ) → i < first n f → f i ≡ false)
      → (i : ℕ) → i < first (suc n) f → f i ≡ false
  first-least-step n true e u q ih i l = ih i (rw e at l)
  first-least-step n false e true q ih i l = some-false n e i (rw (e, q) at l)
  first-least-step n false e false q ih i l =
      ⊎_elim (λ k. rw k q) (λ k. some-false n e i k) (below (rw (e, q) at l))

  pub first-least : (n : ℕ) (i : ℕ) → i < first n f → f i ≡ false
  first-least zero i l = absurd (not-suc-le-zero l)
  first-least (suc n) i l = first-least-step n (some n f) refl (f n) refl (first-least n) i l

  -- the first is at most the bound
  pub first-within : (n : ℕ) → first n f ≤ n
  first-within n = go (some n f) refl
    where
      go : (t : Bool) → some n f ≡ t → first n f ≤ n
      go true e = let k = (first_holds n e).0 in omega arith
      go false e = omega (arith, first-none n e)

  -- and below it exactly where there is one
  pub first_some : (n : ℕ) → ltb (first n f) n ≡ some n f
  first_some n = go (some n f) refl
    where
      go : (t : Bool) → some n f ≡ t → ltb (first n f) n ≡ some n f
      go true e = lt-ltb _ _ (first_holds n e).0 ∙ sym e
      go false e = le-ltb (first n f) n (omega (arith, first-none n e)) ∙ sym e

  -- what a scan shows that stopped at i, or passed all
  pub first-at : (n i : ℕ) → i < n → f i ≡ true → ((k : ℕ) → k < i → f k ≡ false) → first n f ≡ i
  first-at n i l h low =
      let m = first_holds n (some-intro n i l h) in
      let a : ¬ (first n f < i) = λ k. true-false m.1 (low (first n f) k) in
      let b : ¬ (i < first n f) = λ k. true-false h (first-least n i k) in
      omega arith

  pub first-passed : (n i : ℕ) → n ≤ i → ((k : ℕ) → k < i → f k ≡ false) → first n f ≡ n
  first-passed n i l h = first-none n (some-passed n i l h)

  -- what is found, or none, after such a scan
  pub find_at : (n i : ℕ) → i < n → f i ≡ true → ((k : ℕ) → k < i → f k ≡ false) → find n f ≡ Some i
  find_at n i l h low = rw (some-intro n i l h, first-at n i l h low) refl

  pub find-passed : (n i : ℕ) → n ≤ i → ((k : ℕ) → k < i → f k ≡ false) → find n f ≡ None
  find-passed n i l h = rw (some-passed n i l h) refl

  -- where the test holds at some number below n, the first of them is found
  pub find-some : (n : ℕ) → some n f ≡ true → find n f ≡ Some (first n f)
  find-some n h = rw h refl

  pub find-is_some : (n : ℕ) → is_some (find n f) ≡ some n f
  find-is_some n = go (some n f) refl
    where
      go : (t : Bool) → some n f ≡ t → is_some (find n f) ≡ some n f
      go true e = rw (e) refl
      go false e = rw (e) refl

  -- numbers from m on at which the test fails do not matter
  pub find_past : (n m : ℕ) → m ≤ n → ((k : ℕ) → m ≤ k → k < n → f k ≡ false) → find n f ≡ find m f
  find_past n m l h = go (some m f) refl
    where
      go : (t : Bool) → some m f ≡ t → find n f ≡ find m f
      go true e =
          let (low, holds) = first_holds m e in
          find_at n (first m f) (omega arith) holds (first-least m) ∙ sym (find-some m e)
      go false e =
          find-passed n n (omega arith) (λ k i.
          ⊎_elim (λ j. some-false m e k j) (λ j. h k j i) (below? k m))
          ∙ sym (find-passed m m (omega arith) (some-false m e))

  -- at what is found the test holds, and at no number before it; with none it holds nowhere
  pub find-holds :
      (n i : ℕ) → find n f ≡ Some i → (i < n) × (f i ≡ true) × ((k : ℕ) → k < i → f k ≡ false)
  find-holds n i h = go (some n f) refl
    where
      go : (t : Bool) → some n f ≡ t → (i < n) × (f i ≡ true) × ((k : ℕ) → k < i → f k ≡ false)
      go true e =
          let q : first n f ≡ i = same_Some (first n f) i (rw e at h) in
          let m = first_holds n e in
          (rw q at m.0, rw q at m.1, λ k l. first-least n k (omega arith))
      go false e = absurd (none-some i (rw e at h))

  pub find-fails : (n : ℕ) → find n f ≡ None → (i : ℕ) → i < n → f i ≡ false
  find-fails n h = go (some n f) refl
    where
      go : (t : Bool) → some n f ≡ t → (i : ℕ) → i < n → f i ≡ false
      go true e = absurd (none-some (first n f) (sym (rw e at h)))
      go false e = some-false n e

  -- what is found is the first; where nothing is, the first is the bound
  pub find-first : (n i : ℕ) → find n f ≡ Some i → first n f ≡ i
  find-first n i h = let (low, holds, before) = find-holds n i h in first-at n i low holds before

  pub find-missing : (n : ℕ) → find n f ≡ None → first n f ≡ n
  find-missing n h = first-passed n n (omega arith) (find-fails n h)

  -- the last is not before a number at which the test holds, there is none only where it holds nowhere, and it holds
  -- at the last
  pub last-above : (n i k : ℕ) → last n f ≡ Some i → k < n → f k ≡ true → k ≤ i
  last-above zero i k e l h = absurd (not-suc-le-zero l)
  last-above (suc n) i k e l h = go (last-above n i k) (f n) refl
    where
      go : (last n f ≡ Some i → k < n → f k ≡ true → k ≤ i) → (t : Bool) → f n ≡ t → k ≤ i
      go ih true q = let m : n ≡ i = same_Some n i (rw q at e) in omega arith
      go ih false q = ⊎_elim (λ p. absurd (true-false h (rw (← p) at q))) (λ m. ih (rw q at e) m h) (below l)

  pub last-none : (n k : ℕ) → last n f ≡ None → k < n → f k ≡ false
  last-none zero k e l = absurd (not-suc-le-zero l)
  last-none (suc n) k e l = go (last-none n k) (f n) refl
    where
      go : (last n f ≡ None → k < n → f k ≡ false) → (t : Bool) → f n ≡ t → f k ≡ false
      go ih true q = absurd (none-some n (sym (rw q at e)))
      go ih false q = ⊎_elim (λ p. rw p q) (λ m. ih (rw q at e) m) (below l)

  pub last-holds : (n i : ℕ) → last n f ≡ Some i → (i < n) × (f i ≡ true)
  last-holds zero i h = absurd (none-some i h)
  last-holds (suc n) i h = go (last-holds n i) (f n) refl
    where
      go : (last n f ≡ Some i → (i < n) × (f i ≡ true)) → (t : Bool) → f n ≡ t → (i < suc n) × (f i ≡ true)
      go ih true e = let m : i ≡ n = sym (same_Some n i (rw e at h)) in (omega arith, rw m e)
      go ih false e = let k = ih (rw e at h) in (let j = k.0 in omega arith, k.1)

  -- numbers at which the test fails do not matter
  pub last-past : (m d : ℕ) → ((k : ℕ) → m ≤ k → k < m + d → f k ≡ false) → last (m + d) f ≡ last m f
  last-past m zero h = ap (λ (k : ℕ). last k f) (add-zero m)
  last-past m (suc d) h =
      ap (λ (k : ℕ). last k f) (add-suc m d)
      ∙ ap (λ (t : Bool). cond t (Some (m + d)) (last (m + d) f)) (h (m + d) (omega arith) (omega arith))
      ∙ last-past m d (λ k a b. h k a (omega arith))

module _ (f g : ℕ → Bool) where
  pub all-ext : (n : ℕ) → ((i : ℕ) → i < n → f i ≡ g i) → all n f ≡ all n g
  all-ext zero h = refl
  all-ext (suc n) h = ap₂ ◌&&◌ (all-ext n (λ i l. h i (omega arith))) (h n (omega arith))

  pub some-ext : (n : ℕ) → ((i : ℕ) → i < n → f i ≡ g i) → some n f ≡ some n g
  some-ext zero h = refl
  some-ext (suc n) h = ap₂ ◌||◌ (some-ext n (λ i l. h i (omega arith))) (h n (omega arith))

  pub first-ext : (n : ℕ) → ((i : ℕ) → i < n → f i ≡ g i) → first n f ≡ first n g
  first-ext zero h = refl
  first-ext (suc n) h =
      let a = some-ext n (λ i l. h i (omega arith)) in
      let b = first-ext n (λ i l. h i (omega arith)) in
      let c = h n (omega arith) in
      rw (a, b, c)

  pub find-ext : (n : ℕ) → ((i : ℕ) → i < n → f i ≡ g i) → find n f ≡ find n g
  find-ext n h = rw (some-ext n h, first-ext n h) refl

  -- both tests
  pub all_both : (n : ℕ) → all n (λ i. f i && g i) ≡ (all n f && all n g)
  all_both zero = refl
  all_both (suc n) = ap (λ (t : Bool). t && (f n && g n)) (all_both n) ∙ and-swap (all n f) (all n g) (f n) (g n)

-- none is found to fail exactly where all pass, and where one is found not all do
module _ (f : ℕ → Bool) where
  pub none-fails : (n : ℕ) → all n f ≡ true → find n (λ i. not (f i)) ≡ None
  none-fails n h = find-passed (λ i. not (f i)) n n (omega arith) (λ k l. ap not (all-at f n h k l))

  pub all_pass_lem : (n : ℕ) → find n (λ i. not (f i)) ≡ None → all n f ≡ true
  all_pass_lem n h = all-intro f n (λ i l. not-false (f i) (find-fails (λ k. not (f k)) n h i l))

  pub one-fails : (n i : ℕ) → find n (λ k. not (f k)) ≡ Some i → all n f ≡ false
  one-fails n i h =
      let (low, fails, before) = find-holds (λ k. not (f k)) n i h in
      all-false f n i low (not-true (f i) fails)
