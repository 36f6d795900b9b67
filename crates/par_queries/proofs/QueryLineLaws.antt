-- What decides a query line (`line-decided`), and what answers it: the line of a refusal (`line_refused`), or the
-- record that answers its bytes (`line-accepted`), by the filled table, whose estimates pass (`filled-passing`). The
-- function that answers a query line rests on these, and what its answers mean on the last.
use mathlib.Core.Path.{◌≡◌, sym, ap, subst, fun_ext}
use mathlib.Core.Bool.{Bool}
use mathlib.Core.List.{List, [], ◌∷◌}
use Prim.Native.Nat.{ℕ}
use native.Mathlib.Omega.{arith}
use lib.Dec.{eqb}
use lib.ListN.{length}
use Rattle.refusals.specs.Answers.{Answer, refused, told, verdict, ◌unless◌, answered}
use Rattle.refusals.proofs.Verdicts.{verdict-behind, verdict-before}
use Rattle.blocks.specs.Validity.{Valid}
use Rattle.tables.specs.Tables.{LowerBound}
use Rattle.map_tables.specs.MapTables.{largest_entry}
use Rattle.map_tables.proofs.Largest.{one_entry}
use Rattle.filling.specs.FilledTables.{filled, CostBytes}
use Rattle.filling.proofs.LeastEntries.{filled-low, filled-small}
use Rattle.search.specs.Exercises.{Passes}
use Rattle.search.proofs.Demand.{exercise-passing}
use Rattle.records.specs.Records.{query_length, record_conditions, record_of, answer_record}
use Rattle.frames.specs.Lines.{line_ok, line_bytes, line_of}
use Rattle.par_queries.specs.QueryLines.{line_conditions, query_line_conditions, filled_estimate, search_for}
use Rattle.par_queries.specs.QueryLines.{refusal_line, answer_line}

pub filled-passing : (b : List ℕ) → Valid b → CostBytes b → Passes b (filled_estimate b)
filled-passing b valid bytes =
    let own = fun_ext (one_entry b (filled b)) in
    exercise-passing b (largest_entry b [] (filled b)) (subst (LowerBound b) (sym own) (filled-low b valid bytes))
    (λ s ok. omega (arith, one_entry b (filled b) s, filled-small b valid bytes s ok))

module _ (b line : List ℕ) where
  pub line-decided :
      (right fits : Bool) → line_ok line ≡ right → eqb (length (line_bytes line)) (query_length b) ≡ fits
      → verdict (line_conditions b line) ≡ verdict (1 unless right ∷ 2 unless fits ∷ [])
  line-decided right fits p q = rw (p, q)

  -- the line by the verdict on all conditions
  abbrev shown : Answer (Unit {0}) → List ℕ
  shown v = let q = line_bytes line in line_of (record_of b q (answered v (search_for b q)))

  -- a line that is turned back by itself is answered with that number
  pub line_refused : (k : ℕ) → verdict (line_conditions b line) ≡ refused k → answer_line b line ≡ refusal_line k
  unfolding answer_line query_line_conditions
  line_refused k h = ap shown (verdict-before (line_conditions b line) (record_conditions b (line_bytes line)) k h)

  -- any other one by its bytes
  pub line-accepted :
      verdict (line_conditions b line) ≡ told tt
      → answer_line b line ≡ line_of (answer_record b (filled_estimate b) (line_bytes line))
  unfolding answer_line query_line_conditions answer_record
  line-accepted h = ap shown (verdict-behind (line_conditions b line) (record_conditions b (line_bytes line)) h)
