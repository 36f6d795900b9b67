-- Opening an exercise: which lines the reader receives (`exercise_lines`) and where they end (`exercise_end`), what
-- turns an input back (`open_conditions`), and what opening leaves, for every input (`open_exercise`), the filled table
-- at the front of its buffer (`FilledFront`). The functions that open an exercise, and the whole output of `par`, are
-- stated with these.
use Rattle.std.specs.Prelude.{◌≡◌, ℕ, ◌+◌, ◌<◌, Bool, cond, ◌&&◌, leb, length, get_or, take, drop}
use mathlib.Core.List.{List, ◌∷◌, flatten}
use Rattle.basics.specs.Lists.{at_front}
use Rattle.refusals.specs.Answers.{Answer, refused, told, Condition, ◌unless◌, verdict}
use Rattle.blocks.specs.Layout.{frame_count}
use Rattle.blocks.specs.Validity.{head_ok}
use Rattle.filling.specs.FilledTables.{filled}
use Rattle.frames.specs.Lines.{lines_of, line_ok}
use Rattle.frames.specs.Places.{first_line}
use Rattle.frames.specs.Reading.{head_of, block_of, head_line_ok, read_conditions}
use Rattle.par_openings.specs.declared.opening.Opened.{Opened}

-- the most bytes of input
abbrev pub longest_input : ℕ
longest_input = 32768

-- the buffers of a block and of a table, which hold every one
abbrev pub block_room : ℕ
block_room = 2304

abbrev pub table_room : ℕ
table_room = 16384

-- the head does not fail: line 1 alone passes 1, 2 and 3
unfoldable pub head_reads : List (List ℕ) → Bool
head_reads ls = line_ok (first_line ls) && (head_line_ok ls && head_ok (head_of ls))

-- "The reader receives lines 1 to 2 + R + G, or line 1 only if the head fails"
unfoldable pub exercise_count : List (List ℕ) → ℕ
exercise_count ls = cond (head_reads ls) (1 + frame_count (head_of ls)) 1

abbrev pub exercise_lines : List (List ℕ) → List (List ℕ)
exercise_lines ls = take (exercise_count ls) ls

-- what follows are query lines
abbrev pub query_lines : List (List ℕ) → List (List ℕ)
query_lines ls = drop (exercise_count ls) ls

-- where the exercise's lines end in the input, and the query lines begin
abbrev pub exercise_end : List ℕ → ℕ
exercise_end x = length (flatten (exercise_lines (lines_of x)))

-- the exercise's block
abbrev pub exercise_block : List ℕ → List ℕ
exercise_block x = block_of (exercise_lines (lines_of x))

-- "Input over 32,768 bytes prints FF02 only"; then the reader's conditions
unfoldable pub open_conditions : List ℕ → List Condition
open_conditions x = 2 unless leb (length x) longest_input ∷ read_conditions (exercise_lines (lines_of x)) block_room

-- an open exercise
abbrev pub opened : ℕ → ℕ → Opened
opened bytes queries_at = record { bytes = bytes; queries_at = queries_at }

-- the answer, and the final contents of the lent block and table
pub record OpenOutcome : Type 0 where
  pub answer : Answer Opened
  pub block : List ℕ
  pub table : List ℕ

abbrev pub open_outcome : Answer Opened → List ℕ → List ℕ → OpenOutcome
open_outcome answer block table = record { answer = answer; block = block; table = table }

-- refused with both as they were, or the block and its filled table at their fronts
abbrev pub opened_for : Answer (Unit {0}) → List ℕ → List ℕ → List ℕ → OpenOutcome
opened_for (refused number) x block table = open_outcome (refused number) block table
opened_for (told u) x block table =
    open_outcome (told (opened (length (exercise_block x)) (exercise_end x))) (at_front (exercise_block x) block)
    (at_front (filled (exercise_block x)) table)

unfoldable pub open_exercise : List ℕ → List ℕ → List ℕ → OpenOutcome
open_exercise x block table = opened_for (verdict (open_conditions x)) x block table

-- the filled table of the block b stands at the front of t
abbrev pub FilledFront : List ℕ → List ℕ → Type 0
FilledFront b t = (k : ℕ) → k < length (filled b) → get_or t k 0 ≡ get_or (filled b) k 0
