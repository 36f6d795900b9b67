-- The three demands of the order, a record for each (`Demand1`, `Demand2`, `Demand3`), what stays with no map lent
-- (`OneTable`), and all of them with what `par` prints (`Demands`). Each field is a sentence of the order or of the
-- documents, in the definitions of the crates below.
-- The contract of every public call is an equation with the value that is named here; proofs/Demands.antt shows
-- `Demands` by the theorems of those crates.
use Rattle.std.specs.Prelude.{◌≡◌, ◌↔◌, true, false, List, [], ◌∷◌, ◌++◌, ℕ, ◌≤◌, ◌<◌, leb, length, get_or}
use Rattle.std.specs.Prelude.{None, Some}
use Rattle.basics.specs.Marks.{mark}
use Rattle.basics.specs.Lists.{at_front, Bytes}
use Rattle.refusals.specs.Answers.{Answer, refused, told, Condition, ◌unless◌, verdict, answered}
use Rattle.refusals.specs.Answers.{Outcome, outcome, guarded}
use Rattle.blocks.specs.Layout.{positions, labels, rules, left_of, right_of, goal_of, abstract_states}
use Rattle.blocks.specs.Validity.{block_conditions, Valid}
use Rattle.blocks.specs.States.{state_ok}
use Rattle.psvn.specs.Rules.{applies, step, leads, goal_met, meets, met_goal}
use Rattle.psvn.specs.TwoParts.{TwoParts}
use Rattle.psvn.specs.Meaning.{Matched, Successor, LowestMet, NoneMet}
use Rattle.psvn.specs.Runs.{reaches, total_cost}
use Rattle.psvn.specs.Relabelling.{relabel_block, relabel_state}
use Rattle.psvn.specs.Ranks.{state_count}
use Rattle.tables.specs.Tables.{estimate, passes_test, NeverTooHigh}
use Rattle.filling.specs.FilledTables.{filled}
use Rattle.maps.specs.Maps.{Mapped}
use Rattle.map_tables.specs.MapTables.{largest_entry, all_pass}
use Rattle.figures.specs.Figures.{entry_estimate}
use Rattle.backward.specs.Predecessors.{Earlier, from_first, found, none_further, step_back, call}
use Rattle.backward.specs.Predecessors.{NextPredecessor, NoPredecessor}
use Rattle.backward.specs.Reversible.{reversible, OneToOne}
use Rattle.runs.specs.Replay.{replay_ending, replay_state, DoneAt, StuckAt}
use Rattle.runs.specs.declared.replay.RunEnd.{RunEnd}
use Rattle.runs.specs.declared.replay.Replayed.TheVariants.{Done, Stuck}
use Rattle.frames.specs.Lines.{lines_of}
use Rattle.frames.specs.Reading.{read_conditions, read_exercise}
use Rattle.frames.specs.Writing.{text_of}
use Rattle.queries.specs.Queries.{query_conditions}
use Rattle.queries.specs.declared.Limits.{Limits}
use Rattle.rounds.specs.Rounds as rounds
use Rattle.rounds.specs.Systems.{Estimate, at}
use Rattle.rounds.specs.Promises.{BestPlan}
use Rattle.rounds.specs.Logs.{lists_of, Member, Rising, round_log, Logged}
use Rattle.rounds.specs.Thresholds.{Consecutive, VisitsCounted}
use Rattle.search.specs.Exercises.{system_of, Passes, estimate_of, search_from, unlimited, thresholds_of, plan_goal}
use Rattle.search.specs.Promises.{WithinLimits, GoalKept}
use Rattle.psvn_calls.specs.Checking.{check_block, state_conditions}
use Rattle.psvn_calls.specs.Applying.{apply_conditions, apply_rule}
use Rattle.psvn_calls.specs.Goals.{test_goals}
use Rattle.psvn_calls.specs.Relabelling.{relabel_conditions, relabel_exercise}
use Rattle.backward_calls.specs.Predecessors.{step_back_conditions, step_back_from}
use Rattle.backward_calls.specs.Reversing.{reversible_conditions, test_reversible}
use Rattle.run_calls.specs.Replaying.{replay_conditions, replay_run}
use Rattle.map_fills.specs.MapFills.{all_filled, LeastEntries}
use Rattle.table_calls.specs.WholeTables.{table_conditions, fill_table, test_table}
use Rattle.table_calls.specs.Estimating.{look_up_conditions, look_up_estimate}
use Rattle.search_calls.specs.Searching.{reported, search_conditions, find_plan}
use Rattle.records.specs.Records.{record_conditions}
use Rattle.batch_calls.specs.Batches.{batch_conditions, find_plans, BatchKept}
use Rattle.par_queries.specs.QueryLines.{query_line_conditions}
use Rattle.par_outputs.specs.Output.{par_output}
use Rattle.par_outputs.specs.Promises.{Means}

-- ---- demand 1: what is refused, with which number and in which order, and that what is lent keeps its contents

-- the numbers of conditions, in the order in which they count
abbrev pub numbers : List Condition → List ℕ
numbers [] = []
numbers (number unless holds ∷ conditions) = number ∷ numbers conditions

-- a condition of the number k fails, and all before it hold
pub record FirstFailing (conditions : List Condition) (k : ℕ) : Type 0 where
  pub before : List Condition
  pub behind : List Condition
  pub parts : conditions ≡ before ++ (k unless false ∷ behind)
  pub hold : verdict before ≡ told tt

-- a call that is lent a buffer: its conditions count in this order; it is refused exactly where one of them fails, with
-- the number of the first that does, and then the buffer is as it was
pub record Refuses {A : Type 0} (order : List ℕ) (conditions : ℕ → List Condition) (value : List ℕ → Outcome A)
    : Type 0 where
  pub in_order : (room : ℕ) → numbers (conditions room) ≡ order
  pub exactly : (out : List ℕ) (k : ℕ) → ((value out).answer ≡ refused k) ↔ FirstFailing (conditions (length out)) k
  pub keeps : (out : List ℕ) (k : ℕ) → (value out).answer ≡ refused k → (value out).out ≡ out

-- the same of a call that is lent none
pub record RefusesAnswer {A : Type 0} (order : List ℕ) (conditions : List Condition) (answer : Answer A)
    : Type 0 where
  pub in_order : numbers conditions ≡ order
  pub exactly : (k : ℕ) → (answer ≡ refused k) ↔ FirstFailing conditions k

pub record Demand1 : Type 0 where
  -- "The reader's order is 1, 2 (head line), 3, 2 (others), 11, 5, 6, 7"
  pub reading :
      (text : List ℕ)
      → Refuses (1 ∷ 2 ∷ 3 ∷ 2 ∷ 11 ∷ 5 ∷ 6 ∷ 7 ∷ []) (read_conditions (lines_of text)) (read_exercise text)
  -- "The lowest number wins", in every other call
  pub checking : (b : List ℕ) → RefusesAnswer (3 ∷ 4 ∷ 5 ∷ 6 ∷ 7 ∷ []) (block_conditions b) (check_block b)
  pub relabelling :
      (b : List ℕ) → Refuses (3 ∷ 4 ∷ 5 ∷ 6 ∷ 7 ∷ 11 ∷ []) (relabel_conditions b) (relabel_exercise b)
  pub applying :
      (b : List ℕ) (r : ℕ) (s : List ℕ)
      → Refuses (3 ∷ 4 ∷ 5 ∷ 6 ∷ 7 ∷ 8 ∷ 9 ∷ 11 ∷ []) (apply_conditions b r s) (apply_rule b r s)
  pub goal_test :
      (b s : List ℕ) → RefusesAnswer (3 ∷ 4 ∷ 5 ∷ 6 ∷ 7 ∷ 8 ∷ []) (state_conditions b s) (test_goals b s)
  pub stepping_back :
      (b : List ℕ) (r : ℕ) (s : List ℕ) (earlier : Earlier)
      → Refuses (3 ∷ 4 ∷ 5 ∷ 6 ∷ 7 ∷ 8 ∷ 8 ∷ 9 ∷ 11 ∷ []) (step_back_conditions b r s earlier)
      (step_back_from b r s earlier)
  pub reversibility :
      (b : List ℕ) (r : ℕ)
      → RefusesAnswer (3 ∷ 4 ∷ 5 ∷ 6 ∷ 7 ∷ 9 ∷ []) (reversible_conditions b r) (test_reversible b r)
  pub replaying :
      (b s rs : List ℕ)
      → Refuses (3 ∷ 4 ∷ 5 ∷ 6 ∷ 7 ∷ 8 ∷ 9 ∷ 10 ∷ 11 ∷ []) (replay_conditions b s rs) (replay_run b s rs)
  -- with further maps: "It refuses with 14 when .., then with 15 when .., both after 7" (F-2)
  pub filling :
      (b maps : List ℕ)
      → Refuses (3 ∷ 4 ∷ 5 ∷ 6 ∷ 7 ∷ 14 ∷ 15 ∷ 12 ∷ []) (table_conditions b maps) (fill_table b maps)
  pub testing :
      (b maps t : List ℕ)
      → RefusesAnswer (3 ∷ 4 ∷ 5 ∷ 6 ∷ 7 ∷ 14 ∷ 15 ∷ 12 ∷ []) (table_conditions b maps (length t)) (test_table b maps t)
  pub looking_up :
      (b maps s t : List ℕ)
      → RefusesAnswer (3 ∷ 4 ∷ 5 ∷ 6 ∷ 7 ∷ 14 ∷ 15 ∷ 8 ∷ 12 ∷ []) (look_up_conditions b maps s (length t))
      (look_up_estimate b maps s t)
  pub searching :
      (b maps s : List ℕ) (l : Limits) (t : List ℕ)
      → Refuses (3 ∷ 4 ∷ 5 ∷ 6 ∷ 7 ∷ 14 ∷ 15 ∷ 8 ∷ 10 ∷ 11 ∷ 12 ∷ 13 ∷ []) (search_conditions b maps s l t)
      (find_plan b maps s l t)
  -- 16 is "checked after 11; 8 and 10 then arise only per record" (F-4)
  pub searching_many :
      (b maps queries t : List ℕ)
      → Refuses (3 ∷ 4 ∷ 5 ∷ 6 ∷ 7 ∷ 14 ∷ 15 ∷ 16 ∷ 12 ∷ 13 ∷ []) (batch_conditions b maps (length queries) t)
      (find_plans b maps queries t)
  -- "A query is checked for 1, 2 (its length), 8, 10", and a query record for 8, 10
  pub query : (b line : List ℕ) → numbers (query_line_conditions b line) ≡ 1 ∷ 2 ∷ 8 ∷ 10 ∷ []
  pub query_record : (b q : List ℕ) → numbers (record_conditions b q) ≡ 8 ∷ 10 ∷ []
  -- nothing is refused that is right: a block is accepted exactly where it is valid
  pub valid : (b : List ℕ) → (check_block b ≡ told tt) ↔ Valid b
  -- and every valid block is read from its text, given the room
  pub written_read :
      (b : List ℕ) → Valid b → Bytes b → (out : List ℕ) → length b ≤ length out
      → read_exercise (text_of b) out ≡ outcome (told (length b)) (at_front b out)

-- ---- demand 2: applying, stepping back, relabelling and filling give precisely what PSVN defines, of an exercise b

pub record Demand2 (b : List ℕ) : Type 0 where
  -- "A state matches a left side or a goal when its label equals each constant and positions with the same variable
  -- hold equal labels; a dash tests nothing"; "A rule applies when its left side matches"
  pub rule_matches : (r : ℕ) (s : List ℕ) → (applies b r s ≡ true) ↔ Matched (positions b) (left_of b r) s
  pub goal_matches : (g : ℕ) (s : List ℕ) → (goal_met b g s ≡ true) ↔ Matched (positions b) (goal_of b g) s
  -- "all constants are to be tested before any variable" (document 02, F-3)
  pub matching_parts : (side : ℕ → ℕ) (s : List ℕ) → TwoParts (positions b) side s
  -- "the lowest number of a met goal" (document 02, F-1), or none, and then no goal is met
  pub goal_lowest : (s : List ℕ) (g : ℕ) → met_goal b s ≡ Some g → LowestMet b s g
  pub goal_none : (s : List ℕ) → met_goal b s ≡ None → NoneMet b s
  -- each successor: a rule takes s to t exactly where its left side matches s and its right side makes t of s; what
  -- applying writes is that state
  pub successor :
      (r : ℕ) (s t : List ℕ) → r < rules b → state_ok b t ≡ true
      → (leads b r s t ≡ true) ↔
      (Matched (positions b) (left_of b r) s × Successor (positions b) (left_of b r) (right_of b r) s t)
  pub applied : (r : ℕ) (s : List ℕ) → applies b r s ≡ true → leads b r s (step b r s) ≡ true
  pub applied_state : (r : ℕ) (s : List ℕ) → r < rules b → state_ok b s ≡ true → state_ok b (step b r s) ≡ true
  -- "the answer is the next state in base-L rank order that the rule takes to the given one .. or 'none further'"
  pub predecessor :
      (r : ℕ) (s : List ℕ) (earlier : Earlier) (u : List ℕ)
      → step_back b r s earlier ≡ found u → NextPredecessor b r s earlier u
  pub no_predecessor :
      (r : ℕ) (s : List ℕ) (earlier : Earlier) → step_back b r s earlier ≡ none_further → NoPredecessor b r s earlier
  -- every state that leads to a given one is found by some call, each by one call only, and none but those; as many
  -- calls as there are states are enough
  pub each_found :
      (r : ℕ) (s u : List ℕ) → state_ok b u ≡ true → leads b r u s ≡ true
      → (k : ℕ) × (call b r s from_first k ≡ found u)
  pub only_those :
      (r : ℕ) (s : List ℕ) (k : ℕ) (u : List ℕ) → call b r s from_first k ≡ found u
      → (state_ok b u ≡ true) × (leads b r u s ≡ true)
  pub each_once :
      (r : ℕ) (s : List ℕ) (j k : ℕ) (u : List ℕ)
      → call b r s from_first j ≡ found u → call b r s from_first k ≡ found u → j ≡ k
  pub calls_end : (r : ℕ) (s : List ℕ) → call b r s from_first (state_count b) ≡ none_further
  -- "For L of 2 or more this holds exactly when no two states to which it applies have the same image; one label makes
  -- every rule one-to-one"
  pub reversible_exactly : (r : ℕ) → r < rules b → 2 ≤ labels b → (reversible b r ≡ true) ↔ OneToOne b r
  pub one_label : (r : ℕ) → labels b ≡ 1 → OneToOne b r
  -- the relabelled exercise is one, and "Relabelling twice changes nothing more"
  pub relabelled_valid : Valid (relabel_block b)
  pub relabelled_twice : relabel_block (relabel_block b) ≡ relabel_block b
  -- a rule and a goal do to relabelled states what they do to states
  pub relabelled_applies :
      (r : ℕ) (s : List ℕ) → r < rules b → applies b r s ≡ true
      → (applies (relabel_block b) r (relabel_state b s) ≡ true)
      × (relabel_state b (step b r s) ≡ step (relabel_block b) r (relabel_state b s))
  pub relabelled_meets : (s : List ℕ) → meets b s ≡ true → meets (relabel_block b) (relabel_state b s) ≡ true
  -- "Entry r is the least total cost of a list of relabelled rules, of any length, from the state of rank r to a
  -- relabelled goal; the mark if there is none. A filled table passes the test", under each map (F-2), whatever stands
  -- behind the tables in t
  pub filled_least :
      (maps t : List ℕ) → Mapped b maps → LeastEntries b maps (at_front (all_filled b maps) t)
  -- "The all-zero table passes"; the estimates of tables that pass, each under its own map, are lower bounds: "the
  -- largest of its entries, the mark above all" (F-2)
  pub zeros_pass : (t : List ℕ) → ((k : ℕ) → k < abstract_states b → get_or t k 0 ≡ 0) → passes_test b t ≡ true
  pub passing_low :
      (maps t : List ℕ) → Mapped b maps → all_pass b maps t ≡ true → ((k : ℕ) → get_or t k 0 ≤ mark)
      → NeverTooHigh b (largest_entry b maps t)
  -- "'done', or 'stuck' at the first index whose rule does not apply; either way the cost so far, and the state there";
  -- "Replay, when done, reports the final state's goal, or hexadecimal FF for none" (F-1)
  pub replay_done :
      (s rs : List ℕ) (end : RunEnd) → replay_ending b s rs ≡ Done end → DoneAt b s rs end (replay_state b s rs)
  pub replay_stuck :
      (s rs : List ℕ) (end : RunEnd) → replay_ending b s rs ≡ Stuck end → StuckAt b s rs end (replay_state b s rs)

-- ---- demand 3: the search from s within the limits l, by an estimate h that passes, as that of every table does that
-- passes the lower-bound test

-- the lists that the round at T visits, in the order of the visits
abbrev pub visited_at : List ℕ → (List ℕ → Estimate) → List ℕ → Limits → ℕ → List (List ℕ)
visited_at b h s l T = lists_of (round_log (system_of b) h T l.steps s)

pub record Demand3 (b : List ℕ) (h : List ℕ → Estimate) (s : List ℕ) (l : Limits) : Type 0 where
  -- 'spent' exactly when the rounds with no allowance make more visits than are allowed; in every other case the answer
  -- is theirs, its visits included
  pub spent : (search_from b h s l ≡ rounds.spent l.visits) ↔ (l.visits < rounds.visits (unlimited b h s l))
  pub otherwise : rounds.visits (unlimited b h s l) ≤ l.visits → search_from b h s l ≡ unlimited b h s l
  -- then a plan is given exactly when some list within both limits reaches a goal, and 'no plan' exactly when none does
  pub plan_exactly :
      rounds.visits (unlimited b h s l) ≤ l.visits
      → ((u : ℕ) × (p : List ℕ) × (c : ℕ) × (search_from b h s l ≡ rounds.found u p c)) ↔
      ((q : List ℕ) × WithinLimits b s l q)
  pub no_plan_exactly :
      rounds.visits (unlimited b h s l) ≤ l.visits
      → ((u : ℕ) × (search_from b h s l ≡ rounds.no_plan u)) ↔ ((q : List ℕ) → WithinLimits b s l q → ⊥)
  -- a plan given reaches a goal within both limits, and its cost is told
  pub plan :
      (u c : ℕ) (p : List ℕ) → search_from b h s l ≡ rounds.found u p c
      → WithinLimits b s l p × (c ≡ total_cost b p)
  -- "The plan found is, of all cheapest open lists that reach a goal, the first by rule numbers, a prefix before its
  -- extensions"
  pub first_cheapest :
      (u c : ℕ) (p : List ℕ) → search_from b h s l ≡ rounds.found u p c
      → BestPlan (system_of b) l.steps s l.cost p
  -- no list within the step limit that reaches a goal is cheaper, though it may pass a state twice
  pub cheapest :
      (u c : ℕ) (p : List ℕ) → search_from b h s l ≡ rounds.found u p c
      → (q : List ℕ) → reaches b s q ≡ true → length q ≤ l.steps → c ≤ total_cost b q
  -- the goal told is the lowest that the plan's last state meets, and FF exactly where there is no plan (F-1)
  pub goal : GoalKept b s (search_from b h s l) (plan_goal b s (search_from b h s l))
  -- "Rounds have a threshold T, first the start's estimate"; "the next T is the least figure above T among open lists
  -- whose proper prefixes were all visited"
  pub first_threshold :
      (T : ℕ) → h s ≡ at T → T ≤ l.cost → (ts : List ℕ) × (thresholds_of b h s l ≡ T ∷ ts)
  pub next_threshold : Consecutive (system_of b) h l.steps s (thresholds_of b h s l)
  -- "it visits an open list only if it and all its prefixes have a figure of at most T", up to the first of them that
  -- reaches a goal, in the order of rule numbers
  pub visited :
      (T : ℕ) → Member T (thresholds_of b h s l)
      → ((p : List ℕ) → Member p (visited_at b h s l T) ↔ Logged (system_of b) h T l.steps s p)
      × Rising (visited_at b h s l T)
  -- "Visits are counted over all rounds up to the answer, a list anew in each round, the plan's own last visit
  -- included"
  pub visits : VisitsCounted (system_of b) h l.steps l.cost s l.visits (search_from b h s l)
  -- "Every passing table gives it, if the allowance suffices", and so does every estimate that passes
  pub every_estimate :
      (h' : List ℕ → Estimate) → Passes b h' → (u c : ℕ) (p : List ℕ) → search_from b h s l ≡ rounds.found u p c
      → (v : ℕ) × (unlimited b h' s l ≡ rounds.found v p c)
  pub every_table :
      (maps t : List ℕ) → Mapped b maps → all_pass b maps t ≡ true → ((k : ℕ) → get_or t k 0 ≤ mark)
      → (u c : ℕ) (p : List ℕ) → search_from b h s l ≡ rounds.found u p c
      → (v : ℕ) × (unlimited b (estimate_of b maps t) s l ≡ rounds.found v p c)

-- ---- with no map lent each call gives what it gives by the block's own table alone, and refuses as before

-- what turns a call on one table back, behind the block: its own conditions, then 12
abbrev pub by_one_table : List ℕ → List Condition → ℕ → List Condition
by_one_table b own room = block_conditions b ++ (own ++ (12 unless leb (abstract_states b) room ∷ []))

pub record OneTable (b : List ℕ) : Type 0 where
  pub filling :
      (t : List ℕ)
      → fill_table b [] t
      ≡ guarded (verdict (by_one_table b [] (length t))) t (outcome (told tt) (at_front (filled b) t))
  pub testing :
      (t : List ℕ) → test_table b [] t ≡ answered (verdict (by_one_table b [] (length t))) (passes_test b t)
  pub looking_up :
      (s t : List ℕ)
      → look_up_estimate b [] s t
      ≡ answered (verdict (by_one_table b (8 unless state_ok b s ∷ []) (length t))) (estimate b t s)
  pub searching :
      (s : List ℕ) (l : Limits) (t buffer : List ℕ)
      → (let a = search_from b (λ u. entry_estimate (estimate b t u)) s l in
      find_plan b [] s l t buffer
      ≡ guarded
      (verdict
      (block_conditions b
      ++ (query_conditions b s l
      ++ (11 unless leb l.steps (length buffer)
      ∷ 12 unless leb (abstract_states b) (length t)
      ∷ 13 unless passes_test b t
      ∷ []))))
      buffer (outcome (told (reported (plan_goal b s a) a)) (at_front (rounds.plan a) buffer)))

-- ---- all of them, and what `par` prints

pub record Demands : Type 0 where
  pub turned_back : Demand1
  pub language : (b : List ℕ) → Valid b → Bytes b → Demand2 b
  -- by every estimate that passes, and so by every set of tables that pass the lower-bound test: "Cheapest and 'no
  -- plan' hold for any such set; visits follow the new estimate" (F-2)
  pub search :
      (b : List ℕ) (h : List ℕ → Estimate) → Valid b → Passes b h
      → (s : List ℕ) → state_ok b s ≡ true → (l : Limits) → Demand3 b h s l
  pub search_by_tables :
      (b maps t : List ℕ) → Mapped b maps → all_pass b maps t ≡ true → ((k : ℕ) → get_or t k 0 ≤ mark)
      → (s : List ℕ) → state_ok b s ≡ true → (l : Limits) → Demand3 b (estimate_of b maps t) s l
  -- each record of a call on many queries is what a single call gives, with demand 3 (F-4)
  pub record_by_record :
      (b maps queries t answers : List ℕ) → Bytes queries → ((k : ℕ) → get_or t k 0 ≤ mark)
      → (let o = find_plans b maps queries t answers in BatchKept b maps queries t o.answer o.out)
  pub one_table : (b : List ℕ) → OneTable b
  -- for every input, what is printed means what it should, demand 3 included
  pub program : (x : List ℕ) → Means x (par_output x)
