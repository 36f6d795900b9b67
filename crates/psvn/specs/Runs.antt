-- Lists of rule numbers from a state: whether their rules apply in turn (`apply_in_turn`), the last state (`run`),
-- their cost (`total_cost`), and whether they reach a goal (`reaches`). Replay, tables and the search are stated with
-- these.
use Rattle.std.specs.Prelude.{ℕ, ◌+◌, ◌<◌, Bool, true, ◌&&◌, List, [], ◌∷◌, ltb, length, get_or}
use Rattle.blocks.specs.Layout.{rules, cost_of}
use Rattle.psvn.specs.Rules.{applies, step, meets}

-- every number of the list is that of a rule
abbrev pub RuleNumbers : List ℕ → List ℕ → Type 0
RuleNumbers b rs = (i : ℕ) → i < length rs → get_or rs i 0 < rules b

-- the rules apply in turn from the state s; it is not asked whether the numbers are those of rules
abbrev pub apply_in_turn : List ℕ → List ℕ → List ℕ → Bool
apply_in_turn b s [] = true
apply_in_turn b s (r ∷ rs) = applies b r s && apply_in_turn b (step b r s) rs

-- the last state: s itself for the empty list
abbrev pub run : List ℕ → List ℕ → List ℕ → List ℕ
run b s [] = s
run b s (r ∷ rs) = run b (step b r s) rs

-- the sum of the rules' costs
abbrev pub total_cost : List ℕ → List ℕ → ℕ
total_cost b [] = 0
total_cost b (r ∷ rs) = cost_of b r + total_cost b rs

-- the list reaches a goal from s: its numbers are those of rules, they apply in turn, and the last state, s itself for
-- the empty list, meets a goal
abbrev pub reaches : List ℕ → List ℕ → List ℕ → Bool
reaches b s [] = meets b s
reaches b s (r ∷ rs) = ltb r (rules b) && (applies b r s && reaches b (step b r s) rs)
