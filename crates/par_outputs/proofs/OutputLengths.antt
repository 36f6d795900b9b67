-- How long an output is: no answer line is longer than eight times its query line (`answer-short`), so that all from a
-- place on are no longer than eight times what is left of the input (`answers-short`), and every output is at most
-- eight times as long as the longest input (`output-fits`).
-- That the buffer of an output holds every one, and one more line behind it, rests on this.
use mathlib.Core.Path.{◌≡◌, refl, ap}
use mathlib.Core.Logic.{⊎_elim}
use mathlib.Core.List.{List, [], ◌∷◌}
use Prim.Native.Nat.{ℕ, zero, suc, ◌+◌, ◌-◌, ◌*◌, ◌≤◌}
use native.Mathlib.Omega.{arith}
use lib.Dec.{leb, eqb}
use lib.ListN.{length, length-append}
use borrow.Author.Tests.{leb-true, eqb-true}
use Rattle.basics.proofs.Comparing.{below?}
use Rattle.refusals.specs.Answers.{Answer, refused, told, verdict, ◌unless◌}
use Rattle.refusals.proofs.Verdicts.{verdict-told, verdict-parts}
use Rattle.blocks.specs.Validity.{Valid}
use Rattle.filling.specs.FilledTables.{CostBytes}
use Rattle.filling.proofs.LeastEntries.{cost-bytes}
use Rattle.records.specs.Records.{query_length, record_conditions, answer_bytes, refusal_bytes, goal_asked}
use Rattle.frames.specs.Lines.{lines_of, line_ok, line_bytes}
use Rattle.frames.specs.Places.{line_from}
use Rattle.frames.specs.Reading.{read_conditions}
use Rattle.frames.proofs.LineLaws.{line-some, line-inside}
use Rattle.frames.proofs.ReadBytes.{block-small}
use Rattle.par_queries.specs.QueryLines.{line_conditions, query_line_conditions, search_for, answer_line}
use Rattle.frames.proofs.PairLaws.{line-length}
use Rattle.par_openings.specs.Openings.{longest_input, block_room, exercise_lines, exercise_end, exercise_block}
use Rattle.par_openings.specs.Openings.{open_conditions}
use Rattle.par_openings.proofs.OpeningLaws.{end-inside}
use Rattle.par_openings.proofs.OpenedWell.{open-valid}
use Rattle.par_outputs.specs.Output.{par_output, answers_from}
use Rattle.par_outputs.proofs.Meaning.{line-by, query-means, query-short}
use Rattle.par_outputs.proofs.Whole.{answers_next, answers-end, output-refused, output-answers}

-- a line has two characters for each of its bytes
bytes-half : (line : List ℕ) → 2 * length (line_bytes line) ≤ length line
bytes-half [] = omega arith
bytes-half (c ∷ []) = omega arith
bytes-half (c ∷ d ∷ l) = omega (arith, bytes-half l)

module _ (b : List ℕ) (valid : Valid b) (bytes : CostBytes b) where
  -- a line that is turned back has a character, and prints five; any other one has 20, and prints at most 151
  pub answer-short : (line : List ℕ) → 1 ≤ length line → length (answer_line b line) ≤ 8 * length line
  unfolding query_line_conditions
  answer-short line some = by-verdict (verdict (query_line_conditions b line)) refl where
    by-verdict :
        (v : Answer (Unit {0})) → verdict (query_line_conditions b line) ≡ v
        → length (answer_line b line) ≤ 8 * length line
    by-verdict (refused k) h =
        omega (arith, some, ap length (line-by b line (refused k) h), line-length (refusal_bytes k))
    by-verdict (told u) h =
        let q = line_bytes line in
        let answer = search_for b q in
        let goal = goal_asked b q answer in
        let rest = 2 unless eqb (length q) (query_length b) ∷ [] in
        let right = (verdict-parts (line_conditions b line) (record_conditions b q) h).0 in
        let fits = (verdict-told 2 _ [] (verdict-told 1 (line_ok line) rest right).1).0 in
        let long = eqb-true (length q) (query_length b) fits in
        let short = query-short b valid bytes line h in
        let shown = ap length (query-means b valid bytes line h).shown in
        omega (
          arith,
          bytes-half line,
          long,
          valid.sized.headed.sizes.n_low,
          short,
          shown,
          line-length (answer_bytes goal answer),
        )

  module _ (x : List ℕ) where
    answers-within :
        (n at : ℕ) → length x ≤ at + n → at ≤ length x → length (answers_from b x at) ≤ 8 * (length x - at)
    answers-within zero at l m = omega (arith, ap length (answers-end b x at (omega arith)))
    answers-within (suc n) at l m =
        ⊎_elim
        (λ inside.
        let line = line_from x at in
        let some = line-some x at inside in
        let within = line-inside x at m in
        let behind = answers-within n (at + length line) (omega arith) within in
        let next = ap length (answers_next b x at inside) in
        omega (
          arith,
          answer-short line some,
          behind,
          within,
          next,
          length-append (answer_line b line) (answers_from b x (at + length line)),
        ))
        (λ outside. omega (arith, ap length (answers-end b x at outside)))
        (below? at (length x))

    pub answers-short : (at : ℕ) → at ≤ length x → length (answers_from b x at) ≤ 8 * (length x - at)
    answers-short at l = answers-within (length x) at (omega arith) l

pub output-fits : (x : List ℕ) → length (par_output x) ≤ 8 * longest_input
unfolding open_conditions
output-fits x = by-verdict (verdict (open_conditions x)) refl where
  by-verdict : (v : Answer (Unit {0})) → verdict (open_conditions x) ≡ v → length (par_output x) ≤ 8 * longest_input
  by-verdict (refused k) h = omega (arith, ap length (output-refused x k h), line-length (refusal_bytes k))
  by-verdict (told u) h =
      let b = exercise_block x in
      let ls = exercise_lines (lines_of x) in
      let within = (verdict-told 2 (leb (length x) longest_input) (read_conditions ls block_room) h).0 in
      let short = answers-short b (open-valid x h) (cost-bytes b (block-small ls)) x (exercise_end x) (end-inside x) in
      omega (arith, leb-true (length x) longest_input within, short, ap length (output-answers x h))
