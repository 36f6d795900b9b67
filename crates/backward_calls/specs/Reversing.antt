-- Reversible by form, as a public call: `test_reversible` is the answer, yes or no, for every input, and
-- `ReversibilityKept` what the call promises.
use Rattle.std.specs.Prelude.{ℕ, ◌≤◌, Bool, true, false, List, [], ◌∷◌, ◌++◌, ltb}
use Rattle.refusals.specs.Answers.{Answer, refused, told, Condition, ◌unless◌, verdict, answered}
use Rattle.blocks.specs.Layout.{labels, rules}
use Rattle.blocks.specs.Validity.{block_conditions}
use Rattle.backward.specs.Reversible.{reversible, OneToOne}

-- 3 to 7, then 9
unfoldable pub reversible_conditions : List ℕ → ℕ → List Condition
reversible_conditions b r = block_conditions b ++ (9 unless ltb r (rules b) ∷ [])

unfoldable pub test_reversible : List ℕ → ℕ → Answer Bool
test_reversible b r = answered (verdict (reversible_conditions b r)) (reversible b r)

-- a reversible rule takes no two states to one; with two labels or more, any other rule does
abbrev pub ReversibilityKept : List ℕ → ℕ → Answer Bool → Type 0
ReversibilityKept b r (told true) = OneToOne b r
ReversibilityKept b r (told false) = 2 ≤ labels b → OneToOne b r → ⊥
ReversibilityKept b r (refused number) = Unit {0}
