-- What the output of `par` means, for every input: `Means`. Which exercise is read, what each query line prints, and
-- for each query that is not refused demand 3 and the goal reached (`QueryMeans`). It is shown of `par_output` in
-- proofs/Meaning.antt.
use Rattle.std.specs.Prelude.{◌≡◌, ℕ, ◌≤◌, ◌<◌, length}
use mathlib.Core.List.{List, flat_map}
use Rattle.refusals.specs.Answers.{refused, told, verdict}
use Rattle.blocks.specs.Validity.{Valid}
use Rattle.rounds.specs.Rounds as rounds
use Rattle.frames.specs.Lines.{lines_of, line_bytes, line_of}
use Rattle.frames.specs.Reading.{read_conditions}
use Rattle.records.specs.Records.{answer_bytes, goal_asked}
use Rattle.records.specs.Meaning.{AnswerMeans}
use Rattle.par_queries.specs.QueryLines.{query_line_conditions, filled_estimate, search_for, refusal_line, answer_line}
use Rattle.par_openings.specs.Openings.{longest_input, block_room, exercise_lines, query_lines, exercise_block}

-- what the answer a, printed as `line`, means for a query of the exercise b, by its bytes q
pub record LineMeans (b q : List ℕ) (a : rounds.Answer) (line : List ℕ) : Type 0 where
  pub shown : line ≡ line_of (answer_bytes (goal_asked b q a) a)
  -- what is printed reads back as the answer's bytes, the goal's among them
  pub read_back : line_bytes line ≡ answer_bytes (goal_asked b q a) a
  -- demand 3, the goal and the numbers told, by the filled table
  pub means : AnswerMeans b (filled_estimate b) q a

-- a query line of the exercise b that is not refused: the answer of the search that its bytes ask for is printed
abbrev pub QueryMeans : List ℕ → List ℕ → Type 0
QueryMeans b line = LineMeans b (line_bytes line) (search_for b (line_bytes line)) (answer_line b line)

-- the output of an accepted exercise: a line for each query line, in their order
pub record ExerciseMeans (x out : List ℕ) : Type 0 where
  pub valid : Valid (exercise_block x)
  pub lines : out ≡ flat_map (answer_line (exercise_block x)) (query_lines (lines_of x))
  pub refused_query :
      (line : List ℕ) (k : ℕ) → verdict (query_line_conditions (exercise_block x) line) ≡ refused k
      → answer_line (exercise_block x) line ≡ refusal_line k
  pub query :
      (line : List ℕ) → verdict (query_line_conditions (exercise_block x) line) ≡ told tt
      → QueryMeans (exercise_block x) line

pub record Means (x out : List ℕ) : Type 0 where
  -- input that is too long, an exercise that the reader refuses, and one that it accepts
  pub too_long : longest_input < length x → out ≡ refusal_line 2
  pub refused_exercise :
      (k : ℕ) → length x ≤ longest_input → verdict (read_conditions (exercise_lines (lines_of x)) block_room)
      ≡ refused k
      → out ≡ refusal_line k
  pub accepted :
      length x ≤ longest_input → verdict (read_conditions (exercise_lines (lines_of x)) block_room) ≡ told tt
      → ExerciseMeans x out
