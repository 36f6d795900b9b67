-- The lower-bound test of a table over a graph (`passes`), one state at a time (`passes_at`).
-- The test of a table (refusal 13) and the sweeps of the fill rest on it.
use Rattle.std.specs.Prelude.{Bool, not, ◌&&◌, ◌||◌, List, ℕ, ◌+◌, leb, eqb, get_or}
use Rattle.basics.specs.Bounded.{all}
use Rattle.basics.specs.Marks.{mark}
use Rattle.distances.specs.Graphs.{Graph, leads_on}

-- condition (ii) for a rule of cost c, with the entry e before it and f after it: if f is not the mark, e is not the
-- mark and at most c plus f
abbrev pub bounded : ℕ → ℕ → ℕ → Bool
bounded e c f = eqb f mark || (not (eqb e mark) && leb e (c + f))

-- condition (i) at the state u: the entry of a goal is 0
abbrev pub zero_at_goal : Graph → List ℕ → ℕ → Bool
zero_at_goal g t u = not (g.goal u) || eqb (get_or t u 0) 0

-- condition (ii) at the state u for rule r
abbrev pub bounded_by : Graph → List ℕ → ℕ → ℕ → Bool
bounded_by g t u r = not (leads_on g u r) || bounded (get_or t u 0) (g.cost r) (get_or t (g.step u r) 0)

unfoldable pub passes_at : Graph → List ℕ → ℕ → Bool
passes_at g t u = zero_at_goal g t u && all g.rules (bounded_by g t u)

-- both conditions at every state
unfoldable pub passes : Graph → List ℕ → Bool
passes g t = all g.states (passes_at g t)
