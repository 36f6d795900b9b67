-- A test that shows a fixed table to be exact, where antt computes it (`certifies`):
-- the table passes, and every entry that is neither the mark nor a goal's is met by
-- a rule of cost above 0. Tables of worked exercises are shown exact with it.
use Rattle.std.specs.Prelude.{Bool, ◌&&◌, ◌||◌, List, ℕ, ◌+◌, ltb, eqb, length, get_or}
use Rattle.basics.specs.Bounded.{all, some}
use Rattle.basics.specs.Marks.{mark}
use Rattle.distances.specs.Graphs.{Graph, leads_on}
use Rattle.distances.specs.LowerBounds.{passes}

-- rule r costs more than 0, and its cost and the entry after it make the entry of u
abbrev pub met_by : Graph → List ℕ → ℕ → ℕ → Bool
met_by g t u r =
    ltb 0 (g.cost r) && (leads_on g u r && eqb (get_or t u 0) (g.cost r + get_or t (g.step u r) 0))

-- the entry of u is the mark; or it is below it, and u is a goal or some rule meets the entry
abbrev pub met : Graph → List ℕ → ℕ → Bool
met g t u = eqb (get_or t u 0) mark || ltb (get_or t u 0) mark && (g.goal u || some g.rules (met_by g t u))

unfoldable pub certifies : Graph → List ℕ → Bool
certifies g t = eqb (length t) g.states && (passes g t && all g.states (met g t))
