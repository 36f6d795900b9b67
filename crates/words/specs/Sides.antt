-- Sides compiled for words, as the arrays hold them: what a side makes of a word (`rewritten_word`), whether a word
-- matches it, in two parts (`mismatch_word`, `variables_word`; `matches_word`), and so a rule's test, its result and
-- its cost, and the goal met. Where a side stands in the arrays is defined here; `compiling` knows it too, and other
-- crates name a side by its number.
use Rattle.std.specs.Prelude.{ℕ, zero, suc, ◌+◌, ◌*◌, ◌%◌, ◌^◌, Bool, not, ◌&&◌, List, [], ◌∷◌, ◌==◌, bit_and, bit_or}
use Rattle.std.specs.Prelude.{slice_index}
use Rattle.std.specs.Prelude.{Option}
use Rattle.basics.specs.Bounded.{all, some, find}
use Rattle.words.specs.Packing.{digit}

-- where the sides of rule r stand, and goal g
abbrev pub left_place : ℕ → ℕ
left_place r = 2 * r

abbrev pub right_place : ℕ → ℕ
right_place r = 2 * r + 1

abbrev pub goal_place : ℕ → ℕ
goal_place g = 128 + g

-- the side at place x: the mask and the value of its constants, the mask of the positions that keep their label, the
-- number of its moves
abbrev pub mask_at : List ℕ → ℕ → ℕ
mask_at code x = slice_index code (6 * x)

abbrev pub value_at : List ℕ → ℕ → ℕ
value_at code x = slice_index code (6 * x + 1)

abbrev pub keep_at : List ℕ → ℕ → ℕ
keep_at code x = slice_index code (6 * x + 2)

abbrev pub count_at : List ℕ → ℕ → ℕ
count_at code x = slice_index code (6 * x + 3)

-- the positions that its moves read and those that they write, each as the digits of a word
abbrev pub from_at : List ℕ → ℕ → ℕ
from_at code x = slice_index code (6 * x + 4)

abbrev pub to_at : List ℕ → ℕ → ℕ
to_at code x = slice_index code (6 * x + 5)

-- the label read at one position, at the position to write
unfoldable pub moved : ℕ → ℕ → ℕ → ℕ
moved w from to = digit w from * 16 ^ to

-- the first j moves of those that two words tell, joined to a word
unfoldable pub join_moves : ℕ → ℕ → ℕ → ℕ → ℕ → ℕ
join_moves v w from to zero = v
join_moves v w from to (suc j) = bit_or (join_moves v w from to j) (moved w (digit from j) (digit to j))

-- what the side at place x keeps of a word, its constants, and its moves
unfoldable pub rewritten_word : List ℕ → ℕ → ℕ → ℕ
rewritten_word code x w =
    join_moves (bit_or (bit_and w (keep_at code x)) (value_at code x)) w (from_at code x) (to_at code x)
    (count_at code x)

-- the first part of matching: a label may stand at position i, as far as the constants of the side at place x go; no
-- constant differs from a word's label there, and none at all; "the lowest position whose constant differs", or none
abbrev pub mask_allows : List ℕ → ℕ → ℕ → ℕ → Bool
mask_allows code x i y = bit_and y (digit (mask_at code x) i) == digit (value_at code x) i

abbrev pub constant_agrees_word : List ℕ → ℕ → ℕ → ℕ → Bool
constant_agrees_word code x w i = mask_allows code x i (digit w i)

unfoldable pub constants_word : List ℕ → ℕ → ℕ → Bool
constants_word code x w = all 16 (constant_agrees_word code x w)

unfoldable pub mismatch_word : List ℕ → ℕ → ℕ → Option ℕ
mismatch_word code x w = find 16 (λ i. not (constant_agrees_word code x w i))

-- the second part: a word has the same label where a move writes and where it reads, by two words that tell the
-- positions; and so for each move of the side at place x, which is where one of its variables stands again
abbrev pub move_agrees : ℕ → ℕ → ℕ → ℕ → Bool
move_agrees w from to j = digit w (digit to j) == digit w (digit from j)

unfoldable pub variables_word : List ℕ → ℕ → ℕ → Bool
variables_word code x w = all (count_at code x) (move_agrees w (from_at code x) (to_at code x))

-- a word matches the side at place x
unfoldable pub matches_word : List ℕ → ℕ → ℕ → Bool
matches_word code x w = constants_word code x w && variables_word code x w

-- rule r applies to a word; the word it makes; its cost
abbrev pub applies_word : List ℕ → ℕ → ℕ → Bool
applies_word code r w = matches_word code (left_place r) w

abbrev pub step_word : List ℕ → ℕ → ℕ → ℕ
step_word code r w = rewritten_word code (right_place r) w

abbrev pub cost_word : List ℕ → ℕ → ℕ
cost_word code r = slice_index code (816 + r) % 256

-- the word that rules make one after another
abbrev pub run_word : List ℕ → ℕ → List ℕ → ℕ
run_word code w [] = w
run_word code w (r ∷ rs) = run_word code (step_word code r w) rs

-- a word meets one of the goals; the goal that it meets, the first of them
abbrev pub meets_word : List ℕ → ℕ → ℕ → Bool
meets_word code goals w = some goals (λ g. matches_word code (goal_place g) w)

unfoldable pub met_goal_word : List ℕ → ℕ → ℕ → Option ℕ
met_goal_word code goals w = find goals (λ g. matches_word code (goal_place g) w)
