-- What the arrays say of the block that they are compiled from: each side makes of every word what the language's side
-- makes of its state, and a left side or a goal tests what that tests (`Compiled`); pairs of labels have their weights
-- (`Weighted`). The parts of compiling leave these; `Meaning` and the layers above rest on them.
use Rattle.std.specs.Prelude.{◌≡◌, ℕ, suc, ◌+◌, ◌*◌, ◌^◌, ◌<◌, ◌≤◌, true, List, slice_index}
use Rattle.blocks.specs.Terms.{term_of}
use Rattle.blocks.specs.Layout.{positions, rules, goals, label_count, cost_of, left_of, right_of, goal_of}
use Rattle.blocks.specs.Validity.{Valid}
use Rattle.psvn.specs.Rules.{rewritten}
use Rattle.psvn.specs.TwoParts.{constant_allows, variables_agree}
use Rattle.words.specs.Packing.{unpack}
use Rattle.words.specs.Code.{position_count, rule_count, goal_count}
use Rattle.words.specs.Sides.{rewritten_word, mask_allows, variables_word, cost_word, left_place, right_place}
use Rattle.words.specs.Sides.{goal_place}
use Rattle.words.specs.Ranking.{weight_of}

-- the side at place x, under a left side, for words of n labels: what it makes of a word
pub record Sided (n : ℕ) (left side : ℕ → ℕ) (code : List ℕ) (x : ℕ) : Type 0 where
  pub makes : (w : ℕ) → w < 16 ^ n → unpack n (rewritten_word code x w) ≡ rewritten n left side (unpack n w)
  pub small : (w : ℕ) → w < 16 ^ n → rewritten_word code x w < 16 ^ n

-- a left side or a goal at place x: what it makes of a word, and what it tests, constants and variables; its mask asks
-- for nothing behind n labels
pub record Tested (n : ℕ) (side : ℕ → ℕ) (code : List ℕ) (x : ℕ) : Type 0 where
  pub sided : Sided n side side code x
  pub constants : (i y : ℕ) → i < n → y < 16 → mask_allows code x i y ≡ constant_allows (term_of (side i)) y
  pub nothing_behind : (i y : ℕ) → n ≤ i → mask_allows code x i y ≡ true
  pub variables : (w : ℕ) → variables_word code x w ≡ variables_agree n side (unpack n w)

-- a rule: both its sides, and its cost
pub record RuleAt (b code : List ℕ) (r : ℕ) : Type 0 where
  pub left : Tested (positions b) (left_of b r) code (left_place r)
  pub right : Sided (positions b) (left_of b r) (right_of b r) code (right_place r)
  pub cost : cost_word code r ≡ cost_of b r

-- the weight of each pair of labels, x at position 2 * j and y behind it; where position 2 * j is the last one, the
-- digit behind it weighs nothing
pub record Weighted (b weights : List ℕ) : Type 0 where
  pub pair :
      (j x y : ℕ) → suc (2 * j) < positions b → x < label_count b (2 * j) → y < label_count b (suc (2 * j))
      → slice_index weights (256 * j + (y * 16 + x)) ≡ weight_of b (2 * j) x + weight_of b (suc (2 * j)) y
  pub final :
      (j x y : ℕ) → suc (2 * j) ≡ positions b → x < label_count b (2 * j) → y < 16
      → slice_index weights (256 * j + (y * 16 + x)) ≡ weight_of b (2 * j) x

-- how many positions, rules and goals there are
pub record Counted (b code : List ℕ) : Type 0 where
  pub positions_told : position_count code ≡ positions b
  pub rules_told : rule_count code ≡ rules b
  pub goals_told : goal_count code ≡ goals b

pub record Compiled (b code : List ℕ) : Type 0 where
  pub valid : Valid b
  pub counted : Counted b code
  pub rule : (r : ℕ) → r < rules b → RuleAt b code r
  pub goal : (g : ℕ) → g < goals b → Tested (positions b) (goal_of b g) code (goal_place g)
