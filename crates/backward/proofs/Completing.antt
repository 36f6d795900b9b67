-- One turn of the loops of `complete` and `pivot`. The proofs of these two functions rest on it.
use Rattle.std.specs.Prelude.{Option, Some}
use mathlib.Core.Path.{◌≡◌, refl, sym, ap, ◌∙◌, subst}
use mathlib.Core.Bool.{Bool, true, false, ◌&&◌}
use mathlib.Core.List.{List}
use Prim.Native.Nat.{ℕ, suc, ◌+◌, ◌-◌, ◌≤◌, ◌<◌}
use native.Mathlib.Numerals.{add-one}
use native.Mathlib.Omega.{arith}
use lib.ListN.{length, get_or, set}
use lib.Seq.{get_or-set_same, get_or-set_other}
use borrow.Author.Count.{below_more}
use Rattle.basics.specs.Bounded.{last}
use Rattle.basics.proofs.Bounded.{all-false, last-past}
use Rattle.backward.specs.Choices.{Choice, least_of, rises_of, keeps_of, kept_to, raisable_at}
use Rattle.backward.proofs.Choosing.{Near}

-- the least label set at position i
module _
    (choices : List ℕ → ℕ → Choice) (near : Near choices) (u : List ℕ) (i x : ℕ) (l : i < length u) where
  same-before : (k : ℕ) → k < i → get_or (set u i x) k 0 ≡ get_or u k 0
  same-before k m = get_or-set_other u i k x 0 (λ e. omega arith)

  pub complete-before :
      (from : ℕ) (e : List ℕ) → from ≤ i → ((k : ℕ) → k < from → get_or u k 0 ≡ get_or e k 0)
      → (k : ℕ) → k < from → get_or (set u i x) k 0 ≡ get_or e k 0
  complete-before from e f h k m = same-before k (omega arith) ∙ h k m

  pub complete-after :
      (from : ℕ) → x ≡ least_of (choices u i) → ((k : ℕ) → from ≤ k → k < i → get_or u k 0 ≡ least_of (choices u k))
      → (k : ℕ) → from ≤ k → k < i + 1 → get_or (set u i x) k 0 ≡ least_of (choices (set u i x) k)
  complete-after from e h k f m =
      below_more (λ k. from ≤ k → get_or (set u i x) k 0 ≡ least_of (choices (set u i x) k)) i
      (λ k b f. same-before k b ∙ h k f b ∙ ap least_of (still k (omega arith)))
      (λ f. get_or-set_same u i x 0 l ∙ e ∙ ap least_of (still i (omega arith))) k m f
    where
      still : (k : ℕ) → k ≤ i → choices u k ≡ choices (set u i x) k
      still k a = near u (set u i x) k (λ j b. sym (same-before j (omega arith)))

-- position i passed in search of the last one that can be raised
module _ (count : ℕ → ℕ) (choices : List ℕ → ℕ → Choice) (e : List ℕ) (i : ℕ) where
  pub rises-last :
      kept_to choices e i ≡ true → rises_of (count i) (choices e i) (get_or e i 0) ≡ true
      → Some i ≡ last (i + 1) (raisable_at count choices e)
  rises-last a r = rw (add-one i, a, r)

  pub stays-last :
      (best : Option ℕ) → rises_of (count i) (choices e i) (get_or e i 0) ≡ false
      → best ≡ last i (raisable_at count choices e)
      → best ≡ last (i + 1) (raisable_at count choices e)
  stays-last best r h =
      h ∙ go (kept_to choices e i) refl ∙ ap (λ (m : ℕ). last m (raisable_at count choices e)) (sym (add-one i))
    where
      go :
          (t : Bool) → kept_to choices e i ≡ t
          → last i (raisable_at count choices e) ≡ last (suc i) (raisable_at count choices e)
      go true a = rw (a, r)
      go false a = rw a

  -- behind a label that may not stand where it does, none can be raised
  pub stop-last :
      (n : ℕ) → i < n → keeps_of (choices e i) (get_or e i 0) ≡ false
      → last (i + 1) (raisable_at count choices e) ≡ last n (raisable_at count choices e)
  stop-last n l k =
      let q : (i + 1) + (n - (i + 1)) ≡ n = omega arith in
      sym (subst (λ (m : ℕ). last m (raisable_at count choices e) ≡ last (i + 1) (raisable_at count choices e)) q
      (last-past (raisable_at count choices e) (i + 1) (n - (i + 1)) (λ j a b.
      ap (λ (t : Bool). t && rises_of (count j) (choices e j) (get_or e j 0))
      (all-false (λ k. keeps_of (choices e k) (get_or e k 0)) j i (omega arith) k))))
