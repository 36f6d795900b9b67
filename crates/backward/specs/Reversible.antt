-- Reversible by form (document 01): `reversible`; and what this form shows of a rule: no two states to which it applies
-- have the same image (`OneToOne`). The public call for it, and the theorem that the two are the same for two labels or
-- more, are stated with these.
use Rattle.std.specs.Prelude.{◌≡◌, ℕ, Bool, true, false, ◌&&◌, ◌||◌, List, eqb}
use Rattle.basics.specs.Bounded.{all, some}
use Rattle.blocks.specs.Terms.{term_of, is_dash}
use Rattle.blocks.specs.Layout.{positions, left_of, right_of}
use Rattle.blocks.specs.States.{state_ok}
use Rattle.blocks.specs.declared.terms.Term.{Term}
use Rattle.blocks.specs.declared.terms.Term.TheVariants.{Label, Variable, Dash, Refused}
use Rattle.psvn.specs.Rules.{applies, step}

-- the new state shows the variable v at position j: v stands there on the right, or it stands there on the left and the
-- right term is a dash
abbrev pub shows : (ℕ → ℕ) → (ℕ → ℕ) → ℕ → ℕ → Bool
shows left right v j = eqb (right j) v || (eqb (left j) v && is_dash (term_of (right j)))

-- a left term whose label is not lost: a constant, or a variable that also stands on the right or at a left position
-- whose right term is a dash
abbrev pub kept_term : ℕ → (ℕ → ℕ) → (ℕ → ℕ) → Term → Bool
kept_term n left right (Label label) = true
kept_term n left right (Variable v) = some n (shows left right v)
kept_term n left right Dash = false
kept_term n left right Refused = false

-- at position i the right term is a dash, or the left term's label is not lost
abbrev pub form_at : ℕ → (ℕ → ℕ) → (ℕ → ℕ) → ℕ → Bool
form_at n left right i = is_dash (term_of (right i)) || kept_term n left right (term_of (left i))

unfoldable pub reversible : List ℕ → ℕ → Bool
reversible b r = all (positions b) (form_at (positions b) (left_of b r) (right_of b r))

-- no two states to which rule r applies have the same image
abbrev pub OneToOne : List ℕ → ℕ → Type 0
OneToOne b r =
    (u v : List ℕ) → state_ok b u ≡ true → state_ok b v ≡ true → applies b r u ≡ true → applies b r v ≡ true
    → step b r u ≡ step b r v → u ≡ v
