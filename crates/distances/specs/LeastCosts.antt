-- The table of least costs as one value (`least_costs`): by the number of rules
-- allowed, up to as many as there are states. A cheapest list needs no more, so this
-- is the table of the least costs of lists of any length. The fill is stated with it.
use Rattle.std.specs.Prelude.{cond, List, ℕ, zero, suc, ◌+◌, min, eqb, get_or}
use Rattle.basics.specs.Lists.{tabulate}
use Rattle.basics.specs.Marks.{mark}
use Rattle.distances.specs.Graphs.{Graph, leads_on}

-- the cost c before the entry f; the mark stays the mark
abbrev pub before : ℕ → ℕ → ℕ
before c f = cond (eqb f mark) mark (c + f)

-- the cost from u by rule r, where the table t has the costs after it
abbrev pub by_rule : Graph → List ℕ → ℕ → ℕ → ℕ
by_rule g t u r = cond (leads_on g u r) (before (g.cost r) (get_or t (g.step u r) 0)) mark

-- the least of these costs for the first k rules, and of 0 at a goal
unfoldable pub least_by : Graph → List ℕ → ℕ → ℕ → ℕ
least_by g t u zero = cond (g.goal u) 0 mark
least_by g t u (suc k) = min (least_by g t u k) (by_rule g t u k)

-- the least total costs of lists of at most m rules
unfoldable pub least_within : Graph → ℕ → List ℕ
least_within g zero = tabulate g.states (λ u. cond (g.goal u) 0 mark)
least_within g (suc m) = tabulate g.states (λ u. least_by g (least_within g m) u g.rules)

unfoldable pub least_costs : Graph → List ℕ
least_costs g = least_within g g.states
