-- What the calls on tables promise, from the values that they give: `filling-kept`, `test-kept`, `estimate-kept`; of
-- accepted calls `tested-kept` and `looked-kept`. All but the first are for tables of numbers of 32 bits, as every lent
-- one is, whose entries are at most the mark.
-- The proofs of the calls rest on these for the second part of their contracts.
use mathlib.Core.Path.{◌≡◌, refl, sym, subst}
use mathlib.Core.Bool.{Bool, true, false}
use mathlib.Core.List.{List}
use Prim.Native.Nat.{ℕ, ◌≤◌}
use native.Mathlib.Omega.{arith}
use lib.ListN.{length, get_or}
use Rattle.basics.specs.Lists.{Bytes, at_front}
use Rattle.basics.specs.Marks.{mark}
use Rattle.refusals.specs.Answers.{Answer, refused, told, verdict, answered, Outcome, outcome, guarded}
use Rattle.blocks.specs.States.{state_ok}
use Rattle.maps.specs.Maps.{Mapped}
use Rattle.tables.specs.Tables.{NeverTooHigh}
use Rattle.tables.proofs.Promises.{never-too-high}
use Rattle.map_tables.specs.MapTables.{largest_entry, all_pass}
use Rattle.map_tables.proofs.Largest.{all-low}
use Rattle.map_fills.specs.MapFills.{all_filled}
use Rattle.map_fills.proofs.AllFilled.{all-filled-front}
use Rattle.table_calls.specs.WholeTables.{table_conditions, fill_table, FillingKept, test_table, TableTestKept}
use Rattle.table_calls.specs.Estimating.{look_up_conditions, look_up_estimate, EstimateKept}
use Rattle.table_calls.proofs.Conditions.{table_accepted, look-up-accepted}

module _ (b maps : List ℕ) (bytes : Bytes b) (t : List ℕ) where
  -- by the verdict
  filled-by :
      (v : Answer (Unit {0})) → verdict (table_conditions b maps (length t)) ≡ v
      → (let o = guarded v t (outcome (told tt) (at_front (all_filled b maps) t)) in
      FillingKept b maps o.answer o.out)
  filled-by (refused k) h = tt
  filled-by (told u) h = all-filled-front b maps t bytes (table_accepted b maps (length t) h).mapped

  pub filling-kept :
      {a : Answer (Unit {0})} {t' : List ℕ} → outcome a t' ≡ fill_table b maps t → FillingKept b maps a t'
  unfolding fill_table
  filling-kept e =
      subst (λ (o : Outcome (Unit {0})). FillingKept b maps o.answer o.out) (sym e) (filled-by _ refl)

module _ (b maps t : List ℕ) (small : (i : ℕ) → get_or t i 0 ≤ mark) where
  -- tables that pass give no estimate that is too high
  bounded : Mapped b maps → all_pass b maps t ≡ true → NeverTooHigh b (largest_entry b maps t)
  bounded k passing =
      never-too-high b (k.valid 0 (omega arith)) (largest_entry b maps t) (all-low b maps t k small passing)

  tested-by :
      (v : Answer (Unit {0})) → verdict (table_conditions b maps (length t)) ≡ v → (x : Bool) → all_pass b maps t ≡ x
      → TableTestKept b maps t (answered v x)
  tested-by (refused k) h x e = tt
  tested-by (told u) h true e = bounded (table_accepted b maps (length t) h).mapped e
  tested-by (told u) h false e = e

  -- of an accepted call, by what it tells
  pub tested-kept :
      (answer : Bool) → verdict (table_conditions b maps (length t)) ≡ told tt → answer ≡ all_pass b maps t
      → TableTestKept b maps t (told answer)
  tested-kept answer h p = rw p (tested-by (told tt) h _ refl)

  pub test-kept : {a : Answer Bool} → a ≡ test_table b maps t → TableTestKept b maps t a
  unfolding test_table
  test-kept e = subst (TableTestKept b maps t) (sym e) (tested-by _ refl _ refl)

  module _ (s : List ℕ) where
    -- of an accepted call, by what it tells
    pub looked-kept :
        (entry : ℕ) → Mapped b maps → state_ok b s ≡ true → entry ≡ largest_entry b maps t s
        → EstimateKept b maps s t (told entry)
    looked-kept entry k ok p = rw p (λ passing rs reached. bounded k passing s ok rs reached)

    looked-by :
        (v : Answer (Unit {0})) → verdict (look_up_conditions b maps s (length t)) ≡ v
        → EstimateKept b maps s t (answered v (largest_entry b maps t s))
    looked-by (refused k) h = tt
    looked-by (told u) h =
        let k = look-up-accepted b maps (length t) s h in looked-kept _ k.mapped k.state refl

    pub estimate-kept : {a : Answer ℕ} → a ≡ look_up_estimate b maps s t → EstimateKept b maps s t a
    unfolding look_up_estimate
    estimate-kept e = subst (EstimateKept b maps s t) (sym e) (looked-by _ refl)
