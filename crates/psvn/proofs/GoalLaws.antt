-- The goal that a state meets: where one is met it is the lowest (`lowest-met`, `meets-lowest`), where none is, none is
-- told (`none-met`), and the byte tells the two apart (`goal-means`, `byte-some`, `byte-none`, `byte-found`).
-- The goal test, replays and the search rest on these.
use mathlib.Core.Path.{◌≡◌, refl, sym, ap, subst, ◌∙◌}
use mathlib.Core.Bool.{Bool, true, false, not}
use mathlib.Core.List.{List}
use Rattle.std.specs.Prelude.{None, Option, Some}
use Prim.Native.Nat.{ℕ, ◌≤◌, ◌<◌}
use native.Mathlib.Omega.{arith}
use lib.Dec.{eqb}
use borrow.Author.Tests.{ne_eqb}
use Rattle.basics.specs.Bounded as bounded
use Rattle.basics.specs.Bounded.{first, find}
use Rattle.basics.proofs.Bounded.{some-false, first_holds, find-passed, find-some, find-holds, find-fails}
use Rattle.basics.proofs.Truth.{true-false}
use Rattle.blocks.specs.Layout.{goals}
use Rattle.psvn.specs.Rules.{goal_met, meets, met_goal, no_goal, goal_byte}
use Rattle.psvn.specs.Meaning.{LowestMet, NoneMet, GoalMeans}

-- a goal is found where the byte is not that for none
pub byte-found : (n : ℕ) (f : ℕ → Bool) → n ≤ no_goal → not (eqb (goal_byte (find n f)) no_goal) ≡ bounded.some n f
byte-found n f few = go (bounded.some n f) refl
  where
    go : (t : Bool) → bounded.some n f ≡ t → not (eqb (goal_byte (find n f)) no_goal) ≡ bounded.some n f
    go true e =
        let low = (first_holds f n e).0 in
        let found : goal_byte (find n f) < no_goal = omega (arith, ap goal_byte (find-some f n e)) in
        ap not (ne_eqb (goal_byte (find n f)) no_goal (λ q. omega arith)) ∙ sym e
    go false e = ap (λ (x : Option ℕ). not (eqb (goal_byte x) no_goal))
        (find-passed f n n (omega arith) (some-false f n e)) ∙ sym e

module _ (b s : List ℕ) where
  pub lowest-met : (g : ℕ) → met_goal b s ≡ Some g → LowestMet b s g
  unfolding met_goal
  lowest-met g h =
      let q = find-holds (λ k. goal_met b k s) (goals b) g h in
      record { goal = q.0; met = q.1; none_below = q.2 }

  pub none-met : met_goal b s ≡ None → NoneMet b s
  unfolding met_goal
  none-met h = find-fails (λ k. goal_met b k s) (goals b) h

  -- where some goal is met, the byte is the lowest
  pub meets-lowest : meets b s ≡ true → LowestMet b s (goal_byte (met_goal b s))
  unfolding met_goal meets
  meets-lowest h =
      let e = find-some (λ k. goal_met b k s) (goals b) h in
      subst (LowestMet b s) (sym (ap goal_byte e)) (lowest-met (first (goals b) (λ k. goal_met b k s)) e)

  module _ (few : goals b ≤ no_goal) where
    told-by : (x : Option ℕ) → met_goal b s ≡ x → GoalMeans b s (goal_byte x)
    told-by (Some g) e =
        let low = lowest-met g e in
        record {
          none_iff = (λ q. absurd (omega (arith, low.goal)), λ h. absurd (true-false low.met (h g low.goal)));
          lowest = λ q. low;
        }
    told-by None e = record { none_iff = (λ q. none-met e, λ h. refl); lowest = λ q. absurd (q refl) }

    pub goal-means : GoalMeans b s (goal_byte (met_goal b s))
    goal-means = told-by (met_goal b s) refl

    -- the byte read back
    pub byte-none : goal_byte (met_goal b s) ≡ no_goal → met_goal b s ≡ None
    byte-none h = go (met_goal b s) refl
      where
        go : (x : Option ℕ) → met_goal b s ≡ x → met_goal b s ≡ None
        go None e = e
        go (Some g) e = absurd (omega (arith, (lowest-met g e).goal, ap goal_byte e, h))

    pub byte-some : (goal_byte (met_goal b s) ≡ no_goal → ⊥) → met_goal b s ≡ Some (goal_byte (met_goal b s))
    byte-some h = go (met_goal b s) refl
      where
        go : (x : Option ℕ) → met_goal b s ≡ x → met_goal b s ≡ Some (goal_byte (met_goal b s))
        go None e = absurd (h (ap goal_byte e))
        go (Some g) e = e ∙ ap Some (sym (ap goal_byte e))
