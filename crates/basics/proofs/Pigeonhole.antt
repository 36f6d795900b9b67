-- Of n + 1 numbers below n two are equal (`pigeonhole`).
-- That a list that reaches a goal can be cut to fewer rules than there are states rests on it.
use mathlib.Core.Path.{◌≡◌, refl, sym, ◌∙◌}
use mathlib.Core.Logic.{◌≢◌}
use mathlib.Core.Bool.{Bool, true, false, cond}
use Prim.Native.Nat.{ℕ, zero, suc, ◌≤◌, ◌<◌}
use native.Mathlib.Omega.{arith}
use lib.Dec.{eqb}
use borrow.Author.Tests.{eqb-true, eqb-false}
use Rattle.basics.specs.Bounded.{some, first}
use Rattle.basics.proofs.Bounded.{first_holds, some-false}

-- f has one value at two places up to n
pub record Repeat (f : ℕ → ℕ) (n : ℕ) : Type 0 where
  pub once : ℕ
  pub again : ℕ
  pub order : once < again
  pub within : again ≤ n
  pub equal : f once ≡ f again

-- f with its value after n in the place of the value n
abbrev moved : ℕ → (ℕ → ℕ) → ℕ → ℕ
moved n f i = cond (eqb (f i) n) (f (suc n)) (f i)

-- where the value after n is new, this keeps values apart and below n
module _ (n : ℕ) (f : ℕ → ℕ) (below : (i : ℕ) → i ≤ suc n → f i < suc n) (new : (i : ℕ) → i ≤ n → f i ≢ f (suc n)) where
  moved-below : (i : ℕ) → i ≤ n → moved n f i < n
  moved-below i l = go (eqb (f i) n) refl
    where
      go : (x : Bool) → eqb (f i) n ≡ x → cond x (f (suc n)) (f i) < n
      go true e = omega (arith, eqb-true (f i) n e, new i l, below (suc n) (omega arith))
      go false e = omega (arith, eqb-false (f i) n e, below i (omega arith))

  moved-equal : (i j : ℕ) → i ≤ n → j ≤ n → moved n f i ≡ moved n f j → f i ≡ f j
  moved-equal i j k l = go (eqb (f i) n) refl (eqb (f j) n) refl
    where
      go :
          (x : Bool) → eqb (f i) n ≡ x → (y : Bool) → eqb (f j) n ≡ y
          → cond x (f (suc n)) (f i) ≡ cond y (f (suc n)) (f j)
          → f i ≡ f j
      go true d true e q = eqb-true (f i) n d ∙ sym (eqb-true (f j) n e)
      go true d false e q = absurd (new j l (sym q))
      go false d true e q = absurd (new i k q)
      go false d false e q = q

pub pigeonhole : (n : ℕ) (f : ℕ → ℕ) → ((i : ℕ) → i ≤ n → f i < n) → Repeat f n
pigeonhole zero f below = absurd (let h = below 0 (omega arith) in omega arith)
pigeonhole (suc n) f below = go (pigeonhole n) (some (suc n) (λ i. eqb (f i) (f (suc n)))) refl
  where
    go :
        ((h : ℕ → ℕ) → ((i : ℕ) → i ≤ n → h i < n) → Repeat h n)
        → (x : Bool) → some (suc n) (λ i. eqb (f i) (f (suc n))) ≡ x → Repeat f (suc n)
    go ih true e =
        let (l, q) = first_holds (λ i. eqb (f i) (f (suc n))) (suc n) e in
        record {
          once = first (suc n) (λ i. eqb (f i) (f (suc n)));
          again = suc n;
          order = l;
          within = omega arith;
          equal = eqb-true _ _ q;
        }
    go ih false e =
        let new : (i : ℕ) → i ≤ n → f i ≢ f (suc n) =
        λ i l. eqb-false _ _ (some-false (λ i. eqb (f i) (f (suc n))) (suc n) e i (omega arith)) in
        let r = ih (moved n f) (moved-below n f below new) in
        let o = r.order in
        let w = r.within in
        record {
          once = r.once;
          again = r.again;
          order = o;
          within = omega arith;
          equal = moved-equal n f below new r.once r.again (omega arith) w r.equal;
        }
