-- The count of rounds bounds nothing: any two that come above the cost limit give the same answer (`rounds-any`).
-- So the rounds from a threshold on are one round, then the rounds from the next threshold on (`rounds-again`).
-- A loop over thresholds rests on this.
use mathlib.Core.Path.{◌≡◌, refl, sym}
use mathlib.Core.Bool.{Bool, true, false}
use mathlib.Core.List.{[], ◌∷◌}
use Prim.Native.Nat.{ℕ, zero, suc, ◌+◌, ◌≤◌, ◌<◌}
use native.Mathlib.Omega.{arith}
use lib.Dec.{leb}
use borrow.Author.Tests.{leb-true}
use Rattle.rounds.specs.Systems.{System, Estimate, mark, at, Lawful}
use Rattle.rounds.specs.Rounds.{Allowance, Progress, on, hit, stop, Answer, no_plan, conclude, capped, round}
use Rattle.rounds.specs.Rounds.{rounds, rounds_from}
use Rattle.rounds.proofs.ListSets.{Short}
use Rattle.rounds.proofs.OneRound.{Says, round-says}
use Rattle.rounds.proofs.BestPlans.{higher}

module _
    (Y : System) (h : Y.State → Estimate) {Legal : Y.State → Type 0} (L : Lawful Y Legal) (A : Allowance) (D B : ℕ)
    (s : Y.State) where
  conclude-same :
      (T : ℕ) (x : Progress) (k m : ℕ → ℕ → Answer) → Says Y h T A (s ∷ []) s 0 (Short D) mark x
      → ((n u : ℕ) → T < n → k n u ≡ m n u) → conclude x k ≡ conclude x m
  unfolding conclude
  conclude-same T (on u mark) k m a e = refl
  conclude-same T (on u (at n)) k m a e = e n u (higher Y h D s T n a)
  conclude-same T (hit u p c) k m a e = refl
  conclude-same T (stop u) k m a e = refl

  capped_same :
      (T : ℕ) (b : Bool) (u : ℕ) (k m : ℕ → Answer) → leb T B ≡ b → (T ≤ B → k u ≡ m u) → capped b u k ≡ capped b u m
  unfolding capped
  capped_same T true u k m e f = f (leb-true T B e)
  capped_same T false u k m e f = refl

  capped-none : (T : ℕ) (b : Bool) (u : ℕ) (k : ℕ → Answer) → leb T B ≡ b → B < T → capped b u k ≡ no_plan u
  unfolding capped
  capped-none T true u k e l = absurd (omega (arith, leb-true T B e))
  capped-none T false u k e l = refl

  -- counts that reach above the limit make no difference
  pub rounds-any : (n m T u : ℕ) → suc B ≤ n + T → suc B ≤ m + T → rounds Y h A D B s n T u ≡ rounds Y h A D B s m T u
  unfolding rounds
  rounds-any zero zero T u a b = refl
  rounds-any zero (suc m) T u a b = sym (capped-none T (leb T B) u _ refl (omega arith))
  rounds-any (suc n) zero T u a b = capped-none T (leb T B) u _ refl (omega arith)
  rounds-any (suc n) (suc m) T u a b =
      capped_same T (leb T B) u _ _ refl
      (λ l. conclude-same T (round Y h A D s T u) _ _ (round-says Y h T L A D s u)
      (λ t w lt. rounds-any n m t w (omega arith) (omega arith)))

  -- one round, then the others
  pub rounds-again :
      (T u : ℕ)
      → rounds_from Y h A D B s T u ≡ capped (leb T B) u (λ w. conclude (round Y h A D s T w) (rounds_from Y h A D B s))
  unfolding rounds_from rounds
  rounds-again T u =
      capped_same T (leb T B) u _ _ refl
      (λ l. conclude-same T (round Y h A D s T u) _ _ (round-says Y h T L A D s u)
      (λ t w lt. rounds-any B (suc B) t w (omega arith) (omega arith)))
