-- Checking a block (`check_block`, a public call, and `CheckKept`, what it promises), and the conditions on a block and
-- a state together (`state_conditions`). The calls that take a state begin with these conditions.
use Rattle.std.specs.Prelude.{ℕ, List, [], ◌∷◌, ◌++◌}
use Rattle.refusals.specs.Answers.{Answer, refused, told, Condition, ◌unless◌, verdict}
use Rattle.blocks.specs.Validity.{block_conditions, Valid}
use Rattle.blocks.specs.States.{state_ok}

-- 3 to 7
unfoldable pub check_block : List ℕ → Answer (Unit {0})
check_block b = verdict (block_conditions b)

-- accepted exactly where the block is valid
abbrev pub CheckKept : List ℕ → Answer (Unit {0}) → Type 0
CheckKept b (told u) = Valid b
CheckKept b (refused number) = Valid b → ⊥

-- 3 to 7, then 8
unfoldable pub state_conditions : List ℕ → List ℕ → List Condition
state_conditions b s = block_conditions b ++ (8 unless state_ok b s ∷ [])
