-- The exercise under a further map (`remapped`, document 02, F-2), and what it has in common with the exercise
-- (`Alike`). The tables of further maps are ordinary tables of such exercises.
use Rattle.std.specs.Prelude.{◌≡◌, List, ℕ, suc, ◌+◌, length, get_or, set}
use Rattle.basics.specs.Placing.{placed}
use Rattle.blocks.specs.Layout.{positions, labels, rules, goals, head_length, label_count, block_length}
use Rattle.blocks.specs.Layout.{cost_of, left_of, right_of, goal_of}

-- the exercise with the K and the map bytes of m, which has K at its front and L bytes behind it
unfoldable pub remapped : List ℕ → List ℕ → List ℕ
remapped b m = placed (set b 2 (get_or m 0 0)) (λ x. head_length + x) (λ x. get_or m (suc x) 0) (labels b)

-- c differs from b at most in K and the map
pub record Alike (b c : List ℕ) : Type 0 where
  pub positions_same : positions c ≡ positions b
  pub labels_same : label_count c ≡ label_count b
  pub rules_same : rules c ≡ rules b
  pub goals_same : goals c ≡ goals b
  pub cost_same : (r : ℕ) → cost_of c r ≡ cost_of b r
  pub left_same : (r i : ℕ) → left_of c r i ≡ left_of b r i
  pub right_same : (r i : ℕ) → right_of c r i ≡ right_of b r i
  pub goal_same : (g i : ℕ) → goal_of c g i ≡ goal_of b g i
  pub length_same : length c ≡ length b
  pub size_same : block_length c ≡ block_length b
