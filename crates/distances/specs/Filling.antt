-- What every write of a fill keeps (`Good`), what the least cost by one rule is (`via`, `Best`), and what one sweep
-- over all states leaves (`Swept`). The contracts of the fill and of the lower-bound test are stated with these.
use Rattle.std.specs.Prelude.{◌≡◌, Bool, true, false, cond, List, [], ◌∷◌, ℕ, ◌+◌, ◌*◌, ◌≤◌, ◌<◌, ltb, length, get_or}
use Rattle.basics.specs.Lists.{total}
use Rattle.basics.specs.Marks.{mark}
use Rattle.distances.specs.Graphs.{Graph, leads_on, Achieved}
use Rattle.distances.specs.LowerBounds

-- no rule costs more than 255
abbrev pub Cheap : Graph → Type 0
Cheap g = (r : ℕ) → r < g.rules → g.cost r ≤ 255

-- how many entries are not the mark
unfoldable pub unmarked : List ℕ → ℕ
unmarked [] = 0
unmarked (x ∷ xs) = cond (ltb x mark) 1 0 + unmarked xs

-- What every write keeps. An entry that is not the mark is at most 255
-- for each entry that is not, so that it stays far below the mark.
pub record Good (g : Graph) (t : List ℕ) : Type 0 where
  pub len : length t ≡ g.states
  pub zero_at_goals : (u : ℕ) → u < g.states → g.goal u ≡ true → get_or t u 0 ≡ 0
  pub achieved : (u : ℕ) → u < g.states → get_or t u 0 < mark → Achieved g u (get_or t u 0)
  pub bounded : (u : ℕ) → u < g.states → get_or t u 0 < mark → get_or t u 0 ≤ 255 * unmarked t

-- what stands for 'no cost' where costs are 64 bits wide: above every entry plus a cost
abbrev pub none : ℕ
none = 8589934592

-- the cost from u by rule r, as the table has it; `none` where the rule does not apply or leads to a marked state
unfoldable pub via : Graph → List ℕ → ℕ → ℕ → ℕ
via g t u r =
    cond (leads_on g u r)
    (cond (ltb (get_or t (g.step u r) 0) mark) (get_or t (g.step u r) 0 + g.cost r) none)
    none

-- x is the least cost from u by one rule, as the table has it; `none` or more where there is none
pub record Best (g : Graph) (t : List ℕ) (u x : ℕ) : Type 0 where
  pub least : (r : ℕ) → r < g.rules → x ≤ via g t u r
  pub found : x < none → (r : ℕ) × (r < g.rules) × (via g t u r ≡ x)

-- what one sweep over all states leaves of the table t₀, with whether an entry fell
pub record Swept (g : Graph) (t₀ t : List ℕ) (fell : Bool) : Type 0 where
  pub good : Good g t
  pub falls : fell ≡ true → total t < total t₀
  pub passes : fell ≡ false → LowerBounds.passes g t ≡ true

-- rule r takes u to v, in a table that is good
pub record Lowering (g : Graph) (t : List ℕ) (u r v : ℕ) : Type 0 where
  pub small : g.states ≤ 16384
  pub good : Good g t
  pub u_in : u < g.states
  pub r_in : r < g.rules
  pub v_in : v < g.states
  pub edge : g.step u r ≡ v
