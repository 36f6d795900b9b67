-- Relabelling by the map: of a term (`relabel_term`), of a block (`relabel_block`) and of a state (`relabel_state`).
-- Tables are about the relabelled block, whose states are the abstract ones.
use Rattle.std.specs.Prelude.{ℕ, List, ◌∷◌, ◌++◌, get_or}
use Rattle.basics.specs.Lists.{tabulate, joined}
use Rattle.blocks.specs.Terms.{term_of}
use Rattle.blocks.specs.Layout.{positions, rules, goals, map_at, cost_of, left_of, right_of, goal_of, relabel_head}
use Rattle.blocks.specs.declared.terms.Term.{Term}
use Rattle.blocks.specs.declared.terms.Term.TheVariants.{Label, Variable, Dash, Refused}

-- a constant is sent through the map, all else is as before
abbrev pub mapped_term : (ℕ → ℕ) → ℕ → Term → ℕ
mapped_term φ byte (Label label) = φ label.0
mapped_term φ byte (Variable v) = byte
mapped_term φ byte Dash = byte
mapped_term φ byte Refused = byte

abbrev pub relabel_term : (ℕ → ℕ) → ℕ → ℕ
relabel_term φ byte = mapped_term φ byte (term_of byte)

unfoldable pub relabel_side : List ℕ → (ℕ → ℕ) → List ℕ
relabel_side b side = tabulate (positions b) (λ i. relabel_term (map_at b i) (side i))

unfoldable pub relabel_rule : List ℕ → ℕ → List ℕ
relabel_rule b r = cost_of b r ∷ (relabel_side b (left_of b r) ++ relabel_side b (right_of b r))

unfoldable pub relabel_goal : List ℕ → ℕ → List ℕ
relabel_goal b g = relabel_side b (goal_of b g)

-- all relabelled rules, and all relabelled goals, behind one another
abbrev pub relabel_rules : List ℕ → List ℕ
relabel_rules b = joined (rules b) (relabel_rule b)

abbrev pub relabel_goals : List ℕ → List ℕ
relabel_goals b = joined (goals b) (relabel_goal b)

-- the relabelled exercise: L and K both the old K, the identity map, every constant sent through the map, all else as
-- before
unfoldable pub relabel_block : List ℕ → List ℕ
relabel_block b = relabel_head b ++ (relabel_rules b ++ relabel_goals b)

-- the relabelled state: each label through the map at its position
unfoldable pub relabel_state : List ℕ → List ℕ → List ℕ
relabel_state b s = tabulate (positions b) (λ i. map_at b i (get_or s i 0))
