-- The output of `par` means what specs/Promises.antt says: `par-means`. A query that is not refused is answered as
-- records are (`query-means`), since the estimates of the filled table of an exercise that is read from text pass, and
-- its line is short (`query-short`). The contract of a session promises this of what it prints.
use mathlib.Core.Path.{◌≡◌, ap, ◌∙◌}
use mathlib.Core.List.{List}
use Prim.Native.Nat.{ℕ, ◌≤◌}
use lib.ListN.{length}
use Rattle.refusals.specs.Answers.{Answer, refused, told, verdict, answered}
use Rattle.refusals.proofs.Verdicts.{verdict-parts}
use Rattle.blocks.specs.Validity.{Valid}
use Rattle.filling.specs.FilledTables.{CostBytes}
use Rattle.filling.proofs.LeastEntries.{cost-bytes}
use Rattle.rounds.specs.Rounds as rounds
use Rattle.records.specs.Records.{record_conditions, record_room, answer_bytes, goal_asked, record_of}
use Rattle.records.proofs.AnswerMeaning.{answered-small, answered-short, answer-means}
use Rattle.frames.specs.Lines.{lines_of, line_bytes, line_of}
use Rattle.frames.specs.Reading.{read_conditions}
use Rattle.frames.proofs.AcceptedText.{read-valid}
use Rattle.frames.proofs.ReadBytes.{line_small, block-small}
use Rattle.frames.proofs.WrittenLines.{written-bytes}
use Rattle.par_queries.specs.QueryLines.{line_conditions, query_line_conditions, search_for, answer_line}
use Rattle.par_queries.proofs.QueryLineLaws.{filled-passing}
use Rattle.par_openings.specs.Openings.{block_room, exercise_lines, exercise_block, open_conditions}
use Rattle.par_openings.proofs.OpeningLaws.{too-long-refused, reader-decides}
use Rattle.par_outputs.specs.Output.{printed_for, par_output}
use Rattle.par_outputs.specs.Promises.{QueryMeans, ExerciseMeans, Means}

-- the answer line by the verdict on the query line
pub line-by :
    (b line : List ℕ) (v : Answer (Unit {0})) → verdict (query_line_conditions b line) ≡ v
    → (let q = line_bytes line in answer_line b line ≡ line_of (record_of b q (answered v (search_for b q))))
unfolding answer_line
line-by b line v e =
    let q = line_bytes line in ap (λ (u : Answer (Unit {0})). line_of (record_of b q (answered u (search_for b q)))) e

module _
    (b : List ℕ) (valid : Valid b) (bytes : CostBytes b) (line : List ℕ)
    (h : verdict (query_line_conditions b line) ≡ told tt) where
  abbrev q : List ℕ
  q = line_bytes line

  -- the answer of the search that is asked for, and the bytes that tell it with its goal
  abbrev answer : rounds.Answer
  answer = search_for b q

  abbrev told-bytes : List ℕ
  told-bytes = answer_bytes (goal_asked b q answer) answer

  -- its bytes are a query that is not refused
  asked : verdict (record_conditions b q) ≡ told tt
  unfolding query_line_conditions
  asked = (verdict-parts (line_conditions b line) (record_conditions b q) h).1

  pub query-short : length told-bytes ≤ record_room
  query-short = answered-short valid (filled-passing b valid bytes) q asked

  shown : answer_line b line ≡ line_of told-bytes
  shown = line-by b line (told tt) h

  pub query-means : QueryMeans b line
  query-means =
      let passing = filled-passing b valid bytes in
      record {
        shown = shown;
        read_back = ap line_bytes shown ∙ written-bytes told-bytes (answered-small valid passing q asked);
        means = answer-means valid passing q asked (line_small line);
      }

module _ (x : List ℕ) where
  accepted-means :
      verdict (read_conditions (exercise_lines (lines_of x)) block_room) ≡ told tt → (out : List ℕ)
      → out ≡ printed_for (told tt) x → ExerciseMeans x out
  accepted-means h out e =
      let b = exercise_block x in
      let valid = read-valid (exercise_lines (lines_of x)) block_room h in
      let bytes = cost-bytes b (block-small (exercise_lines (lines_of x))) in
      record {
        valid = valid;
        lines = e;
        refused_query = λ line k r. line-by b line (refused k) r;
        query = query-means b valid bytes;
      }

  pub par-means : Means x (par_output x)
  unfolding par_output
  par-means =
      let by : (v : Answer (Unit {0})) → verdict (open_conditions x) ≡ v → par_output x ≡ printed_for v x =
      λ v e. ap (λ (w : Answer (Unit {0})). printed_for w x) e in
      record {
        too_long = λ l. by (refused 2) (too-long-refused x l);
        refused_exercise = λ k l h. by (refused k) (reader-decides x l ∙ h);
        accepted = λ l h. accepted-means h (par_output x) (by (told tt) (reader-decides x l ∙ h));
      }
