-- Matching and applying: one notion, the label that a term gives at a position (`given`), says when a side matches and
-- what a rule writes. A rule applies (`applies`), makes a state (`step`) and so leads from one state to another
-- (`leads`); a goal is met (`goal_met`), some goal is (`meets`), and which one (`met_goal`; as a byte, `goal_byte`).
use Rattle.std.specs.Prelude.{ℕ, Bool, ◌&&◌, List, eqb, get_or, Option, None, Some}
use Rattle.basics.specs.Bounded.{all, some, first, find}
use Rattle.basics.specs.Lists.{tabulate}
use Rattle.blocks.specs.Terms.{term_of}
use Rattle.blocks.specs.Layout.{positions, goals, left_of, right_of, goal_of}
use Rattle.blocks.specs.declared.terms.Term.{Term}
use Rattle.blocks.specs.declared.terms.Term.TheVariants.{Label, Variable, Dash, Refused}

-- the label that the side binds the variable v to: that of the first position where v stands; 0 if it stands nowhere,
-- as no right variable of an accepted block does
unfoldable pub bound : ℕ → (ℕ → ℕ) → List ℕ → ℕ → ℕ
bound n side s v = get_or s (first n (λ j. eqb (side j) v)) 0

-- the label that a term gives at position i: a constant itself, a variable its bound label, a dash the state's own
abbrev pub given : ℕ → (ℕ → ℕ) → List ℕ → ℕ → Term → ℕ
given n side s i (Label label) = label.0
given n side s i (Variable v) = bound n side s v
given n side s i Dash = get_or s i 0
given n side s i Refused = get_or s i 0

-- at position i the state has the label that the side's term gives
abbrev pub agrees : ℕ → (ℕ → ℕ) → List ℕ → ℕ → Bool
agrees n side s i = eqb (get_or s i 0) (given n side s i (term_of (side i)))

-- the state matches the side
unfoldable pub matches : ℕ → (ℕ → ℕ) → List ℕ → Bool
matches n side s = all n (agrees n side s)

-- the new state: each label that the right side's term gives, from the old state
unfoldable pub rewritten : ℕ → (ℕ → ℕ) → (ℕ → ℕ) → List ℕ → List ℕ
rewritten n left right s = tabulate n (λ i. given n left s i (term_of (right i)))

-- rule r applies to the state; the state it makes
unfoldable pub applies : List ℕ → ℕ → List ℕ → Bool
applies b r s = matches (positions b) (left_of b r) s

unfoldable pub step : List ℕ → ℕ → List ℕ → List ℕ
step b r s = rewritten (positions b) (left_of b r) (right_of b r) s

-- two states hold the same n labels
abbrev pub same : ℕ → List ℕ → List ℕ → Bool
same n s t = all n (λ i. eqb (get_or s i 0) (get_or t i 0))

-- rule r takes the state u to s: it applies to u, and the state it makes is s
unfoldable pub leads : List ℕ → ℕ → List ℕ → List ℕ → Bool
leads b r u s = applies b r u && same (positions b) (step b r u) s

-- the state matches goal g; it meets a goal
unfoldable pub goal_met : List ℕ → ℕ → List ℕ → Bool
goal_met b g s = matches (positions b) (goal_of b g) s

unfoldable pub meets : List ℕ → List ℕ → Bool
meets b s = some (goals b) (λ g. goal_met b g s)

-- the goal that the state meets: "the lowest number of a met goal" (document 02, F-1), or none
unfoldable pub met_goal : List ℕ → List ℕ → Option ℕ
met_goal b s = find (goals b) (λ g. goal_met b g s)

-- "hexadecimal FF for none", and a goal as one byte
abbrev pub no_goal : ℕ
no_goal = 255

abbrev pub goal_byte : Option ℕ → ℕ
goal_byte (Some g) = g
goal_byte None = no_goal
