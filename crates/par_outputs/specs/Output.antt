-- What the program `par` prints for an input, as one value: `par_output`; the answer lines from a place on:
-- `answers_from`; and room for every output: `output_room`. The contracts of a session, the theorems on the output's
-- meaning, and the starred exercise on `par` are stated with these.
use mathlib.Core.List.{List, flat_map}
use Rattle.std.specs.Prelude.{ℕ, ◌+◌, ◌*◌, drop}
use Rattle.refusals.specs.Answers.{Answer, refused, told, verdict}
use Rattle.frames.specs.Lines.{lines_of}
use Rattle.par_queries.specs.QueryLines.{line_room, refusal_line, answer_line}
use Rattle.par_openings.specs.Openings.{longest_input, query_lines, exercise_block, open_conditions}

-- "A refused exercise prints one FF line and ends"; else each query line is answered
abbrev pub printed_for : Answer (Unit {0}) → List ℕ → List ℕ
printed_for (refused number) x = refusal_line number
printed_for (told u) x = flat_map (answer_line (exercise_block x)) (query_lines (lines_of x))

unfoldable pub par_output : List ℕ → List ℕ
par_output x = printed_for (verdict (open_conditions x)) x

-- the answer lines of the exercise b for the query lines from a place of the input x on
unfoldable pub answers_from : List ℕ → List ℕ → ℕ → List ℕ
answers_from b x at = flat_map (answer_line b) (lines_of (drop at x))

-- room for every output, and behind it for one more line: no answer line is longer than eight times its query line
abbrev pub output_room : ℕ
output_room = 8 * longest_input + line_room
