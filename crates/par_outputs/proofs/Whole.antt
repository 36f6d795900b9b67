-- The whole output of `par`, as a function of the input's bytes: a refused exercise prints its line alone
-- (`output-refused`); else the output is the answer lines from the place on where the query lines begin
-- (`output-answers`), one after the other up to the input's end (`answers_next`, `answers-end`).
-- The functions of a session, and how long an output is, rest on these.
use mathlib.Core.Path.{◌≡◌, sym, ap, ◌∙◌}
use mathlib.Core.List.{List, [], ◌++◌, flat_map}
use Prim.Native.Nat.{ℕ, ◌+◌, ◌≤◌, ◌<◌}
use lib.ListN.{length, drop_of_length-le}
use Rattle.refusals.specs.Answers.{refused, told, verdict}
use Rattle.frames.specs.Lines.{lines_of}
use Rattle.frames.specs.Places.{line_from}
use Rattle.frames.proofs.LineLaws.{lines_from}
use Rattle.par_queries.specs.QueryLines.{refusal_line, answer_line}
use Rattle.par_openings.specs.Openings.{exercise_end, exercise_block, open_conditions}
use Rattle.par_openings.proofs.OpeningLaws.{query-text}
use Rattle.par_outputs.specs.Output.{printed_for, par_output, answers_from}

module _ (b x : List ℕ) (at : ℕ) where
  -- the line at the place is answered, and then those behind it
  pub answers_next :
      at < length x
      → answers_from b x at ≡ answer_line b (line_from x at) ++ answers_from b x (at + length (line_from x at))
  unfolding answers_from flat_map
  answers_next l = ap (flat_map (answer_line b)) (lines_from x at l)

  -- at the input's end nothing more is printed
  pub answers-end : length x ≤ at → answers_from b x at ≡ []
  unfolding answers_from flat_map
  answers-end l = ap (λ (y : List ℕ). flat_map (answer_line b) (lines_of y)) (drop_of_length-le x l)

module _ (x : List ℕ) where
  -- a refused exercise
  pub output-refused : (k : ℕ) → verdict (open_conditions x) ≡ refused k → par_output x ≡ refusal_line k
  unfolding par_output
  output-refused k h = ap (λ v. printed_for v x) h

  -- an accepted one
  pub output-answers : verdict (open_conditions x) ≡ told tt → par_output x
      ≡ answers_from (exercise_block x) x (exercise_end x)
  unfolding par_output answers_from
  output-answers h = ap (λ v. printed_for v x) h ∙ ap (flat_map (answer_line (exercise_block x))) (sym (query-text x))
