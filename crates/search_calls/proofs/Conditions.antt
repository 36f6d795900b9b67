-- What an accepting verdict on the conditions of a search says (`search_accepted`), also of its tables alone
-- (`tables-accepted`), and what decides them part by part (`exercise-refused`, `query-refused`, `lent-decides`,
-- `lent-decided`, `tables-decided`).
-- The search call rests on these once it has refused what is to be refused.
use mathlib.Core.Path.{◌≡◌, ◌∙◌}
use mathlib.Core.Bool.{Bool, true}
use mathlib.Core.List.{List, [], ◌∷◌, ◌++◌}
use Prim.Native.Nat.{ℕ, ◌≤◌}
use lib.Dec.{leb}
use lib.ListN.{length}
use borrow.Author.Tests.{leb-true}
use Rattle.refusals.specs.Answers.{refused, told, Condition, verdict, ◌unless◌}
use Rattle.refusals.proofs.Verdicts.{verdict-told, verdict-behind, verdict-before, verdict-parts}
use Rattle.blocks.specs.States.{state_ok}
use Rattle.maps.specs.Maps.{all_entries, exercise_conditions, Mapped}
use Rattle.maps.proofs.MapLaws.{exercise-accepted}
use Rattle.map_tables.specs.MapTables.{all_pass}
use Rattle.queries.specs.Queries.{longest_plan, query_conditions}
use Rattle.queries.specs.declared.Limits.{Limits}
use Rattle.queries.proofs.QueryLaws.{query-accepted}
use Rattle.search_calls.specs.Searching.{tables_conditions, lent_conditions, search_conditions}

-- the tables, decided one after the other
pub tables-decided :
    (b maps t : List ℕ) (long passing : Bool) → leb (all_entries b maps) (length t) ≡ long → all_pass b maps t ≡ passing
    → verdict (tables_conditions b maps t) ≡ verdict (12 unless long ∷ 13 unless passing ∷ [])
unfolding tables_conditions
tables-decided b maps t long passing p q = rw (p, q)

-- tables that are accepted
pub record TablesAccepted (b maps t : List ℕ) : Type 0 where
  pub entries : all_entries b maps ≤ length t
  pub passing : all_pass b maps t ≡ true

pub tables-accepted : (b maps t : List ℕ) → verdict (tables_conditions b maps t) ≡ told tt → TablesAccepted b maps t
unfolding tables_conditions
tables-accepted b maps t h =
    let c₁₃ = 13 unless all_pass b maps t in
    let p₁₂ = verdict-told 12 (leb (all_entries b maps) (length t)) (c₁₃ ∷ []) h in
    record {
      entries = leb-true (all_entries b maps) (length t) p₁₂.0;
      passing = (verdict-told 13 (all_pass b maps t) [] p₁₂.1).0;
    }

-- what is lent, by the room first
pub lent-decided :
    (b maps : List ℕ) (D : ℕ) (t : List ℕ) (room : ℕ) (fits : Bool) → leb D room ≡ fits
    → verdict (lent_conditions b maps D t room) ≡ verdict (11 unless fits ∷ tables_conditions b maps t)
unfolding lent_conditions
lent-decided b maps D t room fits p = rw p

module _ (b maps s : List ℕ) (l : Limits) (t : List ℕ) (room : ℕ) where
  abbrev lent : List Condition
  lent = lent_conditions b maps l.steps t room

  -- block and maps are refused, or what is asked, or what is lent decides
  pub exercise-refused :
      (k : ℕ) → verdict (exercise_conditions b maps) ≡ refused k → verdict (search_conditions b maps s l t room)
      ≡ refused k
  unfolding search_conditions
  exercise-refused k h = verdict-before (exercise_conditions b maps) (query_conditions b s l ++ lent) k h

  module _ (valid : verdict (exercise_conditions b maps) ≡ told tt) where
    pub query-refused :
        (k : ℕ) → verdict (query_conditions b s l) ≡ refused k → verdict (search_conditions b maps s l t room)
        ≡ refused k
    unfolding search_conditions
    query-refused k h =
        verdict-behind (exercise_conditions b maps) (query_conditions b s l ++ lent) valid
        ∙ verdict-before (query_conditions b s l) lent k h

    pub lent-decides :
        verdict (query_conditions b s l) ≡ told tt → verdict (search_conditions b maps s l t room) ≡ verdict lent
    unfolding search_conditions
    lent-decides h =
        verdict-behind (exercise_conditions b maps) (query_conditions b s l ++ lent) valid
        ∙ verdict-behind (query_conditions b s l) lent h

  pub record SearchAccepted : Type 0 where
    pub mapped : Mapped b maps
    pub state : state_ok b s ≡ true
    pub steps_few : l.steps ≤ longest_plan
    pub room-left : l.steps ≤ room
    pub tables : TablesAccepted b maps t

  pub search_accepted : verdict (search_conditions b maps s l t room) ≡ told tt → SearchAccepted
  unfolding search_conditions lent_conditions
  search_accepted h =
      let p = verdict-parts (exercise_conditions b maps) (query_conditions b s l ++ lent) h in
      let q = verdict-parts (query_conditions b s l) lent p.1 in
      let asked = query-accepted b s l q.0 in
      let p₁₁ = verdict-told 11 (leb l.steps room) (tables_conditions b maps t) q.1 in
      record {
        mapped = exercise-accepted b maps p.0;
        state = asked.state;
        steps_few = asked.steps_few;
        room-left = leb-true l.steps room p₁₁.0;
        tables = tables-accepted b maps t p₁₁.1;
      }

-- what the check rests on
pub ruleset checks = (verdict-behind, verdict-before)
