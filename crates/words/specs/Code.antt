-- A compiled block as one array (`code_length` elements): where its parts stand, and how many positions, rules and
-- goals it tells. Sides, costs and sets are read by names of their own (`Sides`, and `rule_sets`), and no function
-- knows another's part.
use Rattle.std.specs.Prelude.{ℕ, List, slice_index}

abbrev pub code_length : ℕ
code_length = 1140

-- how many positions, rules and goals the block has
abbrev pub position_count : List ℕ → ℕ
position_count code = slice_index code 1137

abbrev pub rule_count : List ℕ → ℕ
rule_count code = slice_index code 1138

abbrev pub goal_count : List ℕ → ℕ
goal_count code = slice_index code 1139

-- where the sets of rules begin, where the set of plain rules stands, and where what stands behind them does: their
-- part can be written anew
abbrev pub sets_place : ℕ
sets_place = 880

abbrev pub plain_place : ℕ
plain_place = 1136

abbrev pub counts_place : ℕ
counts_place = 1137
