-- Matching in two parts (document 02, F-3): first all constants, where the answer is the lowest position whose constant
-- differs from the state's label, or none (`constant_mismatch`); then, on none alone, the variables
-- (`variables_agree`). `MismatchMeans` says what the first part's answer means; `TwoParts` says that both
-- parts are `matches`. Matching on bytes and on words is stated with these.
use Rattle.std.specs.Prelude.{◌≡◌, ◌↔◌, Bool, true, false, not, List, ℕ, ◌≤◌, ◌<◌, eqb, get_or, None, Option, Some}
use Rattle.basics.specs.Bounded.{all, find}
use Rattle.blocks.specs.Terms.{term_of}
use Rattle.blocks.specs.declared.terms.Term.{Term}
use Rattle.blocks.specs.declared.terms.Term.TheVariants.{Label, Variable, Dash, Refused}
use Rattle.psvn.specs.Rules.{bound, matches}

-- a label may stand where a term does, as far as constants go: a constant asks for itself
abbrev pub constant_allows : Term → ℕ → Bool
constant_allows (Label label) x = eqb x label.0
constant_allows (Variable v) x = true
constant_allows Dash x = true
constant_allows Refused x = true

-- at position i no constant of the side differs from the state's label; nor at any position
abbrev pub constant_agrees : (ℕ → ℕ) → List ℕ → ℕ → Bool
constant_agrees side s i = constant_allows (term_of (side i)) (get_or s i 0)

unfoldable pub constants_agree : ℕ → (ℕ → ℕ) → List ℕ → Bool
constants_agree n side s = all n (constant_agrees side s)

-- "the lowest position whose constant differs from the state's label, or none"
unfoldable pub constant_mismatch : ℕ → (ℕ → ℕ) → List ℕ → Option ℕ
constant_mismatch n side s = find n (λ i. not (constant_agrees side s i))

-- what it means, by the test of each of n positions: a position is told exactly where that is the lowest one that
-- fails, and none "exactly when all agree"
pub record MismatchMeans (n : ℕ) (test : ℕ → Bool) (answer : Option ℕ) : Type 0 where
  pub position_iff :
      (i : ℕ) → (answer ≡ Some i) ↔ ((i < n) × (test i ≡ false) × ((k : ℕ) → k < i → test k ≡ true))
  pub none_iff : (answer ≡ None) ↔ ((i : ℕ) → i < n → test i ≡ true)

-- a label may stand where a term does, as far as variables go: a variable asks for its bound label
abbrev pub variable_allows : ℕ → (ℕ → ℕ) → List ℕ → Term → ℕ → Bool
variable_allows n side s (Label label) x = true
variable_allows n side s (Variable v) x = eqb x (bound n side s v)
variable_allows n side s Dash x = true
variable_allows n side s Refused x = true

-- at position i the state has the label that a variable there is bound to; and at each position
abbrev pub variable_agrees : ℕ → (ℕ → ℕ) → List ℕ → ℕ → Bool
variable_agrees n side s i = variable_allows n side s (term_of (side i)) (get_or s i 0)

unfoldable pub variables_agree : ℕ → (ℕ → ℕ) → List ℕ → Bool
variables_agree n side s = all n (variable_agrees n side s)

-- the two parts are the definition's matching: "variables are looked at only on none. Matches and bindings remain those
-- of the definition"
pub record TwoParts (n : ℕ) (side : ℕ → ℕ) (s : List ℕ) : Type 0 where
  pub told : MismatchMeans n (constant_agrees side s) (constant_mismatch n side s)
  pub match_iff :
      (matches n side s ≡ true) ↔ ((constant_mismatch n side s ≡ None) × (variables_agree n side s ≡ true))
  pub bindings :
      matches n side s ≡ true
      → (i : ℕ) → i < n → 16 ≤ side i → side i < 32 → get_or s i 0 ≡ bound n side s (side i)
