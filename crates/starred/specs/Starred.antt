-- The starred exercises of document 01, as one list of statements on the definitions: `Starred`.
-- They are proved together in proofs/Starred.antt.
use Rattle.std.specs.Prelude.{◌≡◌, ℕ, ◌<◌, true, false, List, [], ◌∷◌, ◌++◌, map, get_or}
use Prim.Native.Char.{code}
use Prim.Native.String.{String}
use Rattle.basics.specs.Marks.{mark}
use Rattle.refusals.specs.Answers.{told, outcome}
use Rattle.blocks.specs.Layout.{abstract_states}
use Rattle.blocks.specs.Validity.{Valid}
use Rattle.blocks.specs.States.{state_ok}
use Rattle.psvn.specs.Rules.{applies, step, no_goal}
use Rattle.psvn.specs.Relabelling.{relabel_block}
use Rattle.psvn.specs.Ranks.{unrank}
use Rattle.tables.specs.Tables.{passes_test}
use Rattle.filling.specs.FilledTables.{LeastCost}
use Rattle.backward.specs.Predecessors.{from_first, after}
use Rattle.backward.specs.Reversible.{OneToOne}
use Rattle.psvn_calls.specs.Applying.{done, apply_rule}
use Rattle.backward_calls.specs.Predecessors.{step_back_from}
use Rattle.backward_calls.specs.Reversing.{test_reversible}
use Rattle.table_calls.specs.WholeTables.{fill_table, test_table}
use Rattle.queries.specs.declared.Limits.{Limits}
use Rattle.search.specs.Exercises.{estimate_of, thresholds_of, round_visits_of}
use Rattle.search_calls.specs.Searching.{search_answer, find_plan}
use Rattle.par_outputs.specs.Output.{par_output}

-- one rule, <A,A,1,-,B,C> to <2,-,-,-,C,B>, over eight labels; the map sends all labels to one, and every state is a
-- goal
unfoldable pub example_block : List ℕ
example_block =
    6 ∷ 8 ∷ 1 ∷ 1 ∷ 1 ∷
    0 ∷ 0 ∷ 0 ∷ 0 ∷ 0 ∷ 0 ∷ 0 ∷ 0 ∷
    1 ∷ 16 ∷ 16 ∷ 1 ∷ 255 ∷ 17 ∷ 18 ∷ 2 ∷ 255 ∷ 255 ∷ 255 ∷ 18 ∷ 17 ∷
    255 ∷ 255 ∷ 255 ∷ 255 ∷ 255 ∷ 255 ∷ []

-- the state it applies to, and the state it makes
unfoldable pub example_state : List ℕ
example_state = 4 ∷ 4 ∷ 1 ∷ 7 ∷ 5 ∷ 6 ∷ []

unfoldable pub example_image : List ℕ
example_image = 2 ∷ 4 ∷ 1 ∷ 7 ∷ 6 ∷ 5 ∷ []

-- a state buffer of seven bytes
abbrev pub room_example : List ℕ
room_example = 9 ∷ 9 ∷ 9 ∷ 9 ∷ 9 ∷ 9 ∷ 9 ∷ []

-- rule 0 is <A,A,-,-> to <-,2,-,->, rule 1 <A,A,-,-> to <-,-,A,->, over six labels; map and goal as before
unfoldable pub pair_block : List ℕ
pair_block =
    4 ∷ 6 ∷ 1 ∷ 2 ∷ 1 ∷
    0 ∷ 0 ∷ 0 ∷ 0 ∷ 0 ∷ 0 ∷
    1 ∷ 16 ∷ 16 ∷ 255 ∷ 255 ∷ 255 ∷ 2 ∷ 255 ∷ 255 ∷
    1 ∷ 16 ∷ 16 ∷ 255 ∷ 255 ∷ 255 ∷ 255 ∷ 16 ∷ 255 ∷
    255 ∷ 255 ∷ 255 ∷ 255 ∷ []

-- input E's block, a line of the document's text a line, and its table
unfoldable pub block_e : List ℕ
block_e =
    3 ∷ 3 ∷ 2 ∷ 6 ∷ 1 ∷
    0 ∷ 1 ∷ 1 ∷
    1 ∷ 16 ∷ 0 ∷ 255 ∷ 0 ∷ 16 ∷ 255 ∷
    1 ∷ 0 ∷ 16 ∷ 255 ∷ 16 ∷ 0 ∷ 255 ∷
    1 ∷ 255 ∷ 16 ∷ 0 ∷ 255 ∷ 0 ∷ 16 ∷
    1 ∷ 255 ∷ 0 ∷ 16 ∷ 255 ∷ 16 ∷ 0 ∷
    3 ∷ 16 ∷ 255 ∷ 0 ∷ 0 ∷ 255 ∷ 16 ∷
    3 ∷ 0 ∷ 255 ∷ 16 ∷ 16 ∷ 255 ∷ 0 ∷
    2 ∷ 1 ∷ 0 ∷ []

unfoldable pub table_e : List ℕ
table_e = mark ∷ mark ∷ mark ∷ 2 ∷ mark ∷ 1 ∷ 0 ∷ mark ∷ []

-- the start of its searches, and a plan buffer of eight bytes
abbrev pub start_e : List ℕ
start_e = 1 ∷ 2 ∷ 0 ∷ []

abbrev pub room_e : List ℕ
room_e = 9 ∷ 9 ∷ 9 ∷ 9 ∷ 9 ∷ 9 ∷ 9 ∷ 9 ∷ []

-- the characters of a text
abbrev pub characters : String → List ℕ
characters String.[] = []
characters (String.◌∷◌ c s) = code c ∷ characters s

-- input E as text, and query lines: from <1,2,0> with D = 8, B = 100, V = 100; with V = 9; with B = 4; with D = 2; and
-- from the goal itself
unfoldable pub session_e : List ℕ
session_e =
    characters "0303020601\n"
    ++ characters "000101\n"
    ++ characters "011000FF0010FF\n"
    ++ characters "010010FF1000FF\n"
    ++ characters "01FF1000FF0010\n"
    ++ characters "01FF0010FF1000\n"
    ++ characters "0310FF0000FF10\n"
    ++ characters "0300FF1010FF00\n"
    ++ characters "020100\n"
    ++ characters "010200080000006400000064\n"
    ++ characters "010200080000006400000009\n"
    ++ characters "010200080000000400000064\n"
    ++ characters "010200020000006400000064\n"
    ++ characters "020100080000006400000064\n"

-- a step limit, a cost limit and a visit allowance
abbrev pub limits : ℕ → ℕ → ℕ → Limits
limits steps cost visits = record { steps = steps; cost = cost; visits = visits }

pub record Starred : Type 0 where
  -- the example rule takes <4,4,1,7,5,6> to <2,4,1,7,6,5>, written at the front of the buffer
  pub example_step :
      apply_rule example_block 0 example_state room_example
      ≡ outcome (told done) (2 ∷ 4 ∷ 1 ∷ 7 ∷ 6 ∷ 5 ∷ 9 ∷ [])
  -- which has just that predecessor: no other state is taken there, and stepping back finds it first, and then none
  -- further
  pub example_only :
      (u : List ℕ) → state_ok example_block u ≡ true → applies example_block 0 u ≡ true
      → step example_block 0 u ≡ example_image → u ≡ example_state
  pub example_first :
      step_back_from example_block 0 example_image from_first room_example
      ≡ outcome (told true) (4 ∷ 4 ∷ 1 ∷ 7 ∷ 5 ∷ 6 ∷ 9 ∷ [])
  pub example_no_further :
      step_back_from example_block 0 example_image (after example_state) room_example
      ≡ outcome (told false) room_example
  -- <A,A,-,-> to <-,2,-,-> is reversible, by form and as a map of states
  pub pair_reversible : test_reversible pair_block 0 ≡ told true
  pub pair_one_to_one : OneToOne pair_block 0
  -- <A,A,-,-> to <-,-,A,-> is not
  pub pair_not_reversible : test_reversible pair_block 1 ≡ told false
  pub pair_not_one_to_one : OneToOne pair_block 1 → ⊥
  -- the table of input E: filling writes it, and leaves what stands behind it
  pub table_filled :
      fill_table block_e [] (7 ∷ 7 ∷ 7 ∷ 7 ∷ 7 ∷ 7 ∷ 7 ∷ 7 ∷ 7 ∷ 8 ∷ [])
      ≡ outcome (told tt) (mark ∷ mark ∷ mark ∷ 2 ∷ mark ∷ 1 ∷ 0 ∷ mark ∷ 7 ∷ 8 ∷ [])
  -- each entry is the least total cost of a list of relabelled rules from its state to a relabelled goal, or the mark
  -- and there is none
  pub table_least : (k : ℕ) → k < 8 → LeastCost (relabel_block block_e) (unrank block_e k) (get_or table_e k 0)
  pub table_passes : test_table block_e [] table_e ≡ told true
  -- the table of zeros passes, of input E and of every exercise
  pub zeros_pass : test_table block_e [] (0 ∷ 0 ∷ 0 ∷ 0 ∷ 0 ∷ 0 ∷ 0 ∷ 0 ∷ []) ≡ told true
  pub zeros_always_pass :
      (b : List ℕ) → Valid b → (t : List ℕ) → ((k : ℕ) → k < abstract_states b → get_or t k 0 ≡ 0) → passes_test b t
      ≡ true
  -- the search of input E from <1,2,0> with its table, step limit 8, cost limit 100 and allowance 100: found, 3 steps,
  -- cost 5, 10 visits, plan 2, 0, 5, which reaches goal 0
  pub search_found :
      find_plan block_e [] start_e (limits 8 100 100) table_e room_e
      ≡ outcome (told (search_answer 0 3 5 10 0)) (2 ∷ 0 ∷ 5 ∷ 9 ∷ 9 ∷ 9 ∷ 9 ∷ 9 ∷ [])
  -- its rounds are at the thresholds 0, 2, 4 and 5, with 1, 2, 3 and 4 visits
  pub search_thresholds :
      thresholds_of block_e (estimate_of block_e [] table_e) start_e (limits 8 100 100) ≡ 0 ∷ 2 ∷ 4 ∷ 5 ∷ []
  pub search_round_visits :
      map (round_visits_of block_e (estimate_of block_e [] table_e) start_e (limits 8 100 100)) (0 ∷ 2 ∷ 4 ∷ 5 ∷ [])
      ≡ 1 ∷ 2 ∷ 3 ∷ 4 ∷ []
  -- an allowance of 9 is spent; without a plan the goal is FF
  pub search_spent :
      find_plan block_e [] start_e (limits 8 100 9) table_e room_e
      ≡ outcome (told (search_answer 2 0 0 9 no_goal)) room_e
  -- with cost limit 4, or with step limit 2, there is no plan
  pub search_cost_limit :
      find_plan block_e [] start_e (limits 8 4 100) table_e room_e
      ≡ outcome (told (search_answer 1 0 0 6 no_goal)) room_e
  pub search_step_limit :
      find_plan block_e [] start_e (limits 2 100 100) table_e room_e
      ≡ outcome (told (search_answer 1 0 0 11 no_goal)) room_e
  -- the table of zeros gives the same plan, after 19 visits
  pub search_zeros :
      find_plan block_e [] start_e (limits 8 100 100) (0 ∷ 0 ∷ 0 ∷ 0 ∷ 0 ∷ 0 ∷ 0 ∷ 0 ∷ []) room_e
      ≡ outcome (told (search_answer 0 3 5 19 0)) (2 ∷ 0 ∷ 5 ∷ 9 ∷ 9 ∷ 9 ∷ 9 ∷ 9 ∷ [])
  -- from the goal itself the plan has no steps, after one visit
  pub search_at_goal :
      find_plan block_e [] (2 ∷ 1 ∷ 0 ∷ []) (limits 8 100 100) table_e room_e
      ≡ outcome (told (search_answer 0 0 0 1 0)) room_e
  -- what `par` prints for these queries: found, goal 0, with 3 steps, cost 5, 10 visits and plan 2, 0, 5; spent after 9
  -- visits; no plan after 6, and after 11; found, goal 0, with no steps after 1
  pub par_prints :
      par_output session_e
      ≡ characters "000003000000050000000A020005\n"
      ++ characters "02000000000000000009\n"
      ++ characters "01000000000000000006\n"
      ++ characters "0100000000000000000B\n"
      ++ characters "0000000000000000000001\n"
