-- With no map lent the calls on tables give what one table gives, refused with 3 to 7, 8 and 12 alone: `one-fill`,
-- `one-test`, `one-look-up`.
-- The demands, and the exercises that lend no further map, rest on these.
use mathlib.Core.Path.{◌≡◌, ap, ap₂, ◌∙◌}
use mathlib.Core.Bool.{Bool}
use mathlib.Core.List.{List, [], ◌∷◌, ◌++◌}
use Prim.Native.Nat.{ℕ}
use lib.Dec.{leb}
use lib.ListN.{length}
use Rattle.basics.specs.Lists.{at_front}
use Rattle.refusals.specs.Answers.{Answer, told, Condition, verdict, ◌unless◌, answered, outcome, guarded}
use Rattle.blocks.specs.Layout.{abstract_states}
use Rattle.blocks.specs.Validity.{block_conditions}
use Rattle.blocks.specs.States.{state_ok}
use Rattle.maps.proofs.MapLaws.{none-entries, none-conditions}
use Rattle.tables.specs.Tables.{estimate, passes_test}
use Rattle.filling.specs.FilledTables.{filled}
use Rattle.map_tables.proofs.Largest.{one_entry, one_passes}
use Rattle.map_fills.proofs.AllFilled.{one-filled}
use Rattle.table_calls.specs.WholeTables.{table_conditions, fill_table, test_table}
use Rattle.table_calls.specs.Estimating.{look_up_conditions, look_up_estimate}

-- what turns the calls back where there is one table
abbrev pub one_table_conditions : List ℕ → ℕ → List Condition
one_table_conditions b room = block_conditions b ++ (12 unless leb (abstract_states b) room ∷ [])

abbrev pub one_look_up_conditions : List ℕ → List ℕ → ℕ → List Condition
one_look_up_conditions b s room =
    block_conditions b ++ (8 unless state_ok b s ∷ 12 unless leb (abstract_states b) room ∷ [])

module _ (b : List ℕ) (room : ℕ) where
  one_table : verdict (table_conditions b [] room) ≡ verdict (one_table_conditions b room)
  unfolding table_conditions
  one_table =
      none-conditions b _
      ∙ ap (λ (n : ℕ). verdict (block_conditions b ++ (12 unless leb n room ∷ []))) (none-entries b)

  one-looked : (s : List ℕ) → verdict (look_up_conditions b [] s room) ≡ verdict (one_look_up_conditions b s room)
  unfolding look_up_conditions
  one-looked s =
      none-conditions b _
      ∙ ap (λ (n : ℕ). verdict (block_conditions b ++ (8 unless state_ok b s ∷ 12 unless leb n room ∷ [])))
      (none-entries b)

module _ (b t : List ℕ) where
  pub one-fill :
      fill_table b [] t
      ≡ guarded (verdict (one_table_conditions b (length t))) t (outcome (told tt) (at_front (filled b) t))
  unfolding fill_table
  one-fill =
      ap₂ (λ (v : Answer (Unit {0})) (l : List ℕ). guarded v t (outcome (told tt) (at_front l t)))
      (one_table b (length t)) (one-filled b)

  pub one-test : test_table b [] t ≡ answered (verdict (one_table_conditions b (length t))) (passes_test b t)
  unfolding test_table
  one-test = ap₂ (answered {A = Bool}) (one_table b (length t)) (one_passes b t)

  pub one-look-up :
      (s : List ℕ)
      → look_up_estimate b [] s t ≡ answered (verdict (one_look_up_conditions b s (length t))) (estimate b t s)
  unfolding look_up_estimate
  one-look-up s = ap₂ (answered {A = ℕ}) (one-looked b (length t) s) (one_entry b t s)
