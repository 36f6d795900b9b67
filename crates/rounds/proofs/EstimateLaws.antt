-- Estimates and figures: the mark is no number (`mark-at`), a figure that is a number comes from one (`number`), no
-- cost adds nothing (`zero-plus`), and one more figure lowers the least overshoot to it or not at all (`lower-within`,
-- `lower-kept`, `lower-cases`). What a round leaves, and which figures its lists have, rest on these.
use mathlib.Core.Path.{◌≡◌, refl, ap}
use mathlib.Core.Logic.{◌⊎◌, inl, inr, ⊎_elim}
use Prim.Native.Nat.{ℕ, ◌+◌, ◌≤◌}
use native.Mathlib.Omega.{arith}
use Rattle.basics.proofs.Comparing.{below?}
use Rattle.rounds.specs.Systems.{Estimate, mark, at, plus, Within, lower}

pub mark-at : (n : ℕ) → mark ≡ at n → ⊥
mark-at n e = let z : ◌≡◌ {A = ℕ} 0 1 = cc in omega arith

pub at-injective : (m n : ℕ) → at m ≡ at n → m ≡ n
at-injective m n e = cc

pub within-mono : (e : Estimate) (f c : ℕ) → Within e f → f ≤ c → Within e c
within-mono mark f c v l = v
within-mono (at n) f c v l = omega arith

pub lower-within : (f z : ℕ) (o : Estimate) → f ≤ z → Within (lower f o) z
unfolding lower
lower-within f z mark l = l
lower-within f z (at n) l = omega arith

pub lower-kept : (f z : ℕ) (o : Estimate) → Within o z → Within (lower f o) z
unfolding lower
lower-kept f z mark l = absurd l
lower-kept f z (at n) l = omega arith

pub lower-cases : (f : ℕ) (o : Estimate) → (lower f o ≡ o) ⊎ (lower f o ≡ at f)
unfolding lower
lower-cases f mark = inr refl
lower-cases f (at n) = ⊎_elim (λ l. inl (ap at (omega arith))) (λ l. inr (ap at (omega arith))) (below? n f)

pub zero-plus : (e : Estimate) → plus 0 e ≡ e
zero-plus mark = refl
zero-plus (at n) = ap at (omega arith)

-- the figure of an estimate that is a number
pub number : (e : Estimate) (g f : ℕ) → plus g e ≡ at f → (k : ℕ) × (e ≡ at k) × (g + k ≡ f)
number mark g f x = absurd (mark-at f x)
number (at k) g f x = (k, refl, at-injective (g + k) f x)
