-- Query lines: what turns one back (`query_line_conditions`), the search that its bytes ask for (`search_for`) by the
-- filled table (`filled_estimate`), and the line that answers it (`answer_line`); the line of a refusal
-- (`refusal_line`). All that `par` prints for an accepted exercise is made of answer lines.
use Rattle.std.specs.Prelude.{◌≡◌, ℕ, ◌+◌, List, [], ◌∷◌, ◌++◌, eqb, length}
use Rattle.refusals.specs.Answers.{Condition, ◌unless◌, verdict, answered}
use Rattle.filling.specs.FilledTables.{filled}
use Rattle.rounds.specs.Systems.{Estimate}
use Rattle.rounds.specs.Rounds as rounds
use Rattle.search.specs.Exercises.{estimate_of}
use Rattle.records.specs.Records.{query_length, record_conditions, search_asked, refusal_bytes, record_of, Written}
use Rattle.frames.specs.Lines.{line_ok, line_bytes, line_of}
use Rattle.frames.specs.Places.{line_from}
use Rattle.par_queries.specs.declared.answering.Answered.{Answered}

-- "A query is checked for 1, 2 (its length), 8, 10"
abbrev pub line_conditions : List ℕ → List ℕ → List Condition
line_conditions b line = 1 unless line_ok line ∷ 2 unless eqb (length (line_bytes line)) (query_length b) ∷ []

unfoldable pub query_line_conditions : List ℕ → List ℕ → List Condition
query_line_conditions b line = line_conditions b line ++ record_conditions b (line_bytes line)

-- the estimate by the filled table, and the search by it that a query's bytes ask for
abbrev pub filled_estimate : List ℕ → List ℕ → Estimate
filled_estimate b = estimate_of b [] (filled b)

abbrev pub search_for : List ℕ → List ℕ → rounds.Answer
search_for b q = search_asked b (filled_estimate b) q

-- room for every line: two digits for each byte of a record, and the line feed
abbrev pub line_room : ℕ
line_room = 151

-- the line of a refusal: "FF and the number"
abbrev pub refusal_line : ℕ → List ℕ
refusal_line number = line_of (refusal_bytes number)

-- the line that answers a query line, for the exercise b: the record that answers its bytes, or FF and the number
unfoldable pub answer_line : List ℕ → List ℕ → List ℕ
answer_line b line =
    let q = line_bytes line in
    line_of (record_of b q (answered (verdict (query_line_conditions b line)) (search_for b q)))

-- what answering the query line at the place `at` of the input x tells and leaves in the line's buffer: the answer line
-- with its length, and the place behind the query line
pub record AnsweredAt (b x : List ℕ) (at : ℕ) (old : List ℕ) (r : Answered) (new : List ℕ) : Type 0 where
  pub written : Written (answer_line b (line_from x at)) old r.bytes new
  pub onward : r.next ≡ at + length (line_from x at)
