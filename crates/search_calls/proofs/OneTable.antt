-- With no map lent a search gives what one table gives, refused with 3 to 7, 8 and 10 to 13 alone: `one-plan`.
-- The demands, and the exercises that lend no further map, rest on this.
use mathlib.Core.Path.{◌≡◌, ap, ap₂, ◌∙◌, fun_ext}
use mathlib.Core.Bool.{Bool}
use mathlib.Core.List.{List, [], ◌∷◌, ◌++◌}
use Prim.Native.Nat.{ℕ}
use lib.Dec.{leb}
use lib.ListN.{length}
use Rattle.basics.specs.Lists.{at_front}
use Rattle.refusals.specs.Answers.{Answer, told, Condition, verdict, ◌unless◌, Outcome, outcome, guarded}
use Rattle.blocks.specs.Layout.{abstract_states}
use Rattle.blocks.specs.Validity.{block_conditions}
use Rattle.maps.proofs.MapLaws.{none-entries, none-conditions}
use Rattle.tables.specs.Tables.{estimate, passes_test}
use Rattle.map_tables.proofs.Largest.{one_entry, one_passes}
use Rattle.figures.specs.Figures.{entry_estimate}
use Rattle.rounds.specs.Systems.{Estimate}
use Rattle.rounds.specs.Rounds as rounds
use Rattle.queries.specs.Queries.{query_conditions}
use Rattle.queries.specs.declared.Limits.{Limits}
use Rattle.search.specs.Exercises.{search_from, plan_goal}
use Rattle.search_calls.specs.Searching.{SearchAnswer, reported, tables_conditions, lent_conditions}
use Rattle.search_calls.specs.Searching.{search_conditions, find_plan}

-- what turns a search back where there is one table
abbrev pub one_search_conditions : List ℕ → List ℕ → Limits → List ℕ → ℕ → List Condition
one_search_conditions b s l t room =
    block_conditions b
    ++ (query_conditions b s l
    ++ (11 unless leb l.steps room ∷ 12 unless leb (abstract_states b) (length t) ∷ 13 unless passes_test b t ∷ []))

-- what it gives by an estimate, where nothing turns it back
abbrev pub given_by : List ℕ → List ℕ → Limits → List ℕ → (List ℕ → Estimate) → Outcome SearchAnswer
given_by b s l buffer h =
    let a = search_from b h s l in
    outcome (told (reported (plan_goal b s a) a)) (at_front (rounds.plan a) buffer)

module _ (b s : List ℕ) (l : Limits) (t : List ℕ) where
  one-searched : (room : ℕ) → verdict (search_conditions b [] s l t room) ≡ verdict (one_search_conditions b s l t room)
  unfolding search_conditions lent_conditions tables_conditions
  one-searched room =
      none-conditions b _
      ∙ ap₂
      (λ (n : ℕ) (x : Bool).
      verdict
      (block_conditions b
      ++ (query_conditions b s l
      ++ (11 unless leb l.steps room ∷ 12 unless leb n (length t) ∷ 13 unless x ∷ []))))
      (none-entries b) (one_passes b t)

  pub one-plan :
      (buffer : List ℕ)
      → find_plan b [] s l t buffer
      ≡ guarded (verdict (one_search_conditions b s l t (length buffer))) buffer
      (given_by b s l buffer (λ u. entry_estimate (estimate b t u)))
  unfolding find_plan
  one-plan buffer =
      ap₂ (λ (v : Answer (Unit {0})) (h : List ℕ → Estimate). guarded v buffer (given_by b s l buffer h))
      (one-searched (length buffer)) (fun_ext (λ u. ap entry_estimate (one_entry b t u)))
