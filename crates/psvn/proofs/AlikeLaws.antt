-- Exercises that differ at most in K and the map have the same states (`state-alike`); the same rules apply
-- (`applies-alike`) and make the same states (`step-alike`), and the same goals are met (`meets-alike`).
-- Tables under further maps rest on these.
use mathlib.Core.Path.{◌≡◌, refl, ap, ap₂, ◌∙◌}
use mathlib.Core.List.{List}
use Prim.Native.Nat.{ℕ}
use lib.Dec.{eqb}
use lib.ListN.{get_or}
use Rattle.basics.specs.Bounded.{some}
use Rattle.basics.proofs.Bounded.{all-ext, some-ext, first-ext}
use Rattle.basics.proofs.Lists.{tabulate-ext}
use Rattle.blocks.specs.Terms.{term_of}
use Rattle.blocks.specs.Layout.{positions, goals, left_of, right_of, goal_of}
use Rattle.blocks.specs.States.{labelled, state_ok}
use Rattle.blocks.specs.Remapping.{Alike}
use Rattle.blocks.specs.declared.terms.Term.{Term}
use Rattle.blocks.specs.declared.terms.Term.TheVariants.{Label, Variable, Dash, Refused}
use Rattle.psvn.specs.Rules.{bound, given, agrees, matches, rewritten, applies, step, goal_met, meets}

-- sides with the same terms
module _ (n : ℕ) (side side' : ℕ → ℕ) (same : (j : ℕ) → side' j ≡ side j) (s : List ℕ) where
  given-ext : (i : ℕ) (t : Term) → given n side' s i t ≡ given n side s i t
  unfolding bound
  given-ext i (Label x) = refl
  given-ext i (Variable v) =
      ap (λ (k : ℕ). get_or s k 0)
      (first-ext (λ j. eqb (side' j) v) (λ j. eqb (side j) v) n (λ j l. ap (λ (x : ℕ). eqb x v) (same j)))
  given-ext i Dash = refl
  given-ext i Refused = refl

  matches-ext : matches n side' s ≡ matches n side s
  unfolding matches
  matches-ext =
      all-ext (agrees n side' s) (agrees n side s) n
      (λ i l.
      ap (λ (x : ℕ). eqb (get_or s i 0) x)
      (ap (λ (x : ℕ). given n side' s i (term_of x)) (same i) ∙ given-ext i (term_of (side i))))

  rewritten-ext :
      (right right' : ℕ → ℕ) → ((j : ℕ) → right' j ≡ right j) → rewritten n side' right' s ≡ rewritten n side right s
  unfolding rewritten
  rewritten-ext right right' e =
      tabulate-ext n (λ i. given n side' s i (term_of (right' i))) (λ i. given n side s i (term_of (right i)))
      (λ i l. ap (λ (x : ℕ). given n side' s i (term_of x)) (e i) ∙ given-ext i (term_of (right i)))

module _ {b c : List ℕ} (k : Alike b c) (s : List ℕ) where
  pub state-alike : state_ok c s ≡ state_ok b s
  state-alike = ap₂ (λ (n : ℕ) (count : ℕ → ℕ). labelled n count s) k.positions_same k.labels_same

  pub applies-alike : (r : ℕ) → applies c r s ≡ applies b r s
  unfolding applies
  applies-alike r =
      ap (λ (n : ℕ). matches n (left_of c r) s) k.positions_same
      ∙ matches-ext (positions b) (left_of b r) (left_of c r) (k.left_same r) s

  pub step-alike : (r : ℕ) → step c r s ≡ step b r s
  unfolding step
  step-alike r =
      ap (λ (n : ℕ). rewritten n (left_of c r) (right_of c r) s) k.positions_same
      ∙ rewritten-ext (positions b) (left_of b r) (left_of c r) (k.left_same r) s (right_of b r) (right_of c r)
      (k.right_same r)

  pub meets-alike : meets c s ≡ meets b s
  unfolding meets goal_met
  meets-alike =
      ap (λ (n : ℕ). some n (λ g. matches (positions c) (goal_of c g) s)) k.goals_same
      ∙ some-ext (λ g. matches (positions c) (goal_of c g) s) (λ g. matches (positions b) (goal_of b g) s) (goals b)
      (λ g l.
      ap (λ (n : ℕ). matches n (goal_of c g) s) k.positions_same
      ∙ matches-ext (positions b) (goal_of b g) (goal_of c g) (k.goal_same g) s)
