-- The demands hold: `demands`. Each field is settled by a theorem of a crate below.
-- Nothing rests on this: it is for whoever asks what has been shown.
use mathlib.Core.Path.{◌≡◌, refl, subst}
use mathlib.Core.Logic.{◌↔◌}
use mathlib.Core.Bool.{Bool, true, false, cond}
use mathlib.Core.List.{List}
use Prim.Native.Nat.{ℕ, ◌<◌}
use native.Mathlib.Omega.{arith}
use Rattle.basics.specs.Lists.{Bytes}
use Rattle.refusals.specs.Answers.{Answer, refused, told, verdict, answered, Outcome}
use Rattle.blocks.specs.Layout.{positions, rules, left_of, right_of, goal_of}
use Rattle.blocks.specs.Validity.{shape_conditions, content_conditions, block_conditions, Valid}
use Rattle.blocks.specs.States.{state_ok}
use Rattle.blocks.proofs.Accepted.{accepted-valid, valid-accepted}
use Rattle.blocks.proofs.StateLaws.{state-length}
use Rattle.psvn.specs.Rules.{applies, step, leads, goal_met}
use Rattle.psvn.specs.Meaning.{Matched, Successor}
use Rattle.psvn.proofs.MatchingLaws.{matched, matching, in-two-parts}
use Rattle.psvn.proofs.Successors.{made-successor, successor-only}
use Rattle.psvn.proofs.Stepping.{step-length, step-state}
use Rattle.psvn.proofs.GoalLaws.{lowest-met, none-met}
use Rattle.psvn.proofs.Homomorphism.{applies-relabelled, step-relabelled, meets-relabelled}
use Rattle.psvn.proofs.RelabelTwice.{relabel-twice}
use Rattle.psvn.proofs.RelabelledValid.{relabelled_valid}
use Rattle.tables.proofs.Promises.{never-too-high, zeros-pass-test}
use Rattle.maps.specs.Maps.{map_conditions, exercise_conditions}
use Rattle.map_tables.specs.MapTables.{largest_entry}
use Rattle.map_tables.proofs.Largest.{all-low}
use Rattle.map_fills.proofs.AllFilled.{all-filled-front}
use Rattle.backward.specs.Predecessors.{from_first}
use Rattle.backward.proofs.Keeping.{valid-proper}
use Rattle.backward.proofs.Leading.{leads-exactly}
use Rattle.backward.proofs.NextState.{found-next, none-none}
use Rattle.backward.proofs.Enumeration.{call-sound, call-once, call-complete, calls-enough}
use Rattle.backward.proofs.OneToOne.{reversible_exactly, one_label}
use Rattle.runs.proofs.ReplayLaws.{done-in-turn, stuck_at}
use Rattle.frames.specs.Reading.{frame_conditions, read_conditions, read_exercise}
use Rattle.frames.proofs.WrittenExercises.{read-written}
use Rattle.queries.specs.declared.Limits.{Limits}
use Rattle.rounds.specs.Systems.{Estimate}
use Rattle.rounds.specs.Rounds.{free}
use Rattle.rounds.specs.Logs.{Log, log, lists_of, Member, Rising, round_log, Logged}
use Rattle.rounds.specs.Thresholds.{RoundAt}
use Rattle.rounds.proofs.LogLaws.{log-at-round}
use Rattle.rounds.proofs.Thresholds as thresholds
use Rattle.queries.specs.Queries.{query_conditions}
use Rattle.search.specs.Exercises.{system_of, Passes, estimate_of}
use Rattle.search.proofs.Demand.{exercise-lawful, tables-passing, kept, visits-counted, thresholds-follow, same-found}
use Rattle.search.proofs.Demand.{goal-kept}
use Rattle.psvn_calls.specs.Checking.{check_block, state_conditions}
use Rattle.psvn_calls.specs.Applying.{done, does_not_apply, apply_conditions, apply_rule}
use Rattle.psvn_calls.specs.Goals.{test_goals}
use Rattle.psvn_calls.specs.Relabelling.{relabel_conditions, relabel_exercise}
use Rattle.backward_calls.specs.Predecessors.{step_back_conditions, step_back_from}
use Rattle.backward_calls.specs.Reversing.{reversible_conditions, test_reversible}
use Rattle.run_calls.specs.Replaying.{replay_conditions, replay_run}
use Rattle.table_calls.specs.WholeTables.{table_conditions, fill_table, test_table}
use Rattle.table_calls.specs.Estimating.{look_up_conditions, look_up_estimate}
use Rattle.table_calls.proofs.OneTable.{one-fill, one-test, one-look-up}
use Rattle.batch_calls.specs.Batches.{batch_conditions, find_plans}
use Rattle.batch_calls.proofs.Promises.{batch-kept}
use Rattle.search_calls.specs.Searching.{tables_conditions, lent_conditions, search_conditions, find_plan}
use Rattle.search_calls.proofs.OneTable.{one-plan}
use Rattle.par_queries.specs.QueryLines.{query_line_conditions}
use Rattle.par_outputs.proofs.Meaning.{par-means}
use Rattle.demands.specs.Demands.{Demand1, Demand2, Demand3, OneTable, Demands}
use Rattle.demands.proofs.TurnedBack.{refuses, refuses-answer}

-- a verdict as an answer that tells nothing more
itself : (v : Answer (Unit {0})) → v ≡ answered v tt
itself (refused n) = refl
itself (told u) = refl

-- an outcome by a test tells something where both do
by-test :
    {A : Type 0} (x : Bool) (o p : Outcome A) → ((a : A) × (o.answer ≡ told a)) → ((a : A) × (p.answer ≡ told a))
    → (a : A) × ((cond x o p).answer ≡ told a)
by-test true o p h k = h
by-test false o p h k = k

demand1 : Demand1
unfolding
    read_conditions frame_conditions read_exercise block_conditions shape_conditions content_conditions check_block
    relabel_conditions relabel_exercise state_conditions apply_conditions apply_rule test_goals step_back_conditions
    step_back_from reversible_conditions test_reversible replay_conditions replay_run map_conditions
    exercise_conditions table_conditions fill_table test_table
    look_up_conditions look_up_estimate search_conditions query_conditions lent_conditions tables_conditions find_plan
    batch_conditions find_plans query_line_conditions
demand1 =
    record {
      reading = λ text. refuses _ _ _ _ (λ room. refl) (λ out. refl) (λ out. (_, refl));
      checking = λ b. refuses-answer _ _ _ tt refl (itself (verdict (block_conditions b)));
      relabelling = λ b. refuses _ _ _ _ (λ room. refl) (λ out. refl) (λ out. (_, refl));
      applying =
          λ b r s.
          refuses _ _ _ _ (λ room. refl) (λ out. refl)
          (λ out. by-test (applies b r s) _ _ (done, refl) (does_not_apply, refl));
      goal_test = λ b s. refuses-answer _ _ _ _ refl refl;
      stepping_back = λ b r s earlier. refuses _ _ _ _ (λ room. refl) (λ out. refl) (λ out. (_, refl));
      reversibility = λ b r. refuses-answer _ _ _ _ refl refl;
      replaying = λ b s rs. refuses _ _ _ _ (λ room. refl) (λ out. refl) (λ out. (_, refl));
      filling = λ b maps. refuses _ _ _ _ (λ room. refl) (λ out. refl) (λ out. (_, refl));
      testing = λ b maps t. refuses-answer _ _ _ _ refl refl;
      looking_up = λ b maps s t. refuses-answer _ _ _ _ refl refl;
      searching = λ b maps s l t. refuses _ _ _ _ (λ room. refl) (λ out. refl) (λ out. (_, refl));
      searching_many = λ b maps queries t. refuses _ _ _ _ (λ room. refl) (λ out. refl) (λ out. (_, refl));
      query = λ b line. refl;
      query_record = λ b q. refl;
      valid = λ b. (accepted-valid b, valid-accepted b);
      written_read = read-written;
    }

-- the language, of a valid block
module _ (b : List ℕ) (v : Valid b) where
  successor :
      (r : ℕ) (s t : List ℕ) → r < rules b → state_ok b t ≡ true
      → (leads b r s t ≡ true) ↔
      (Matched (positions b) (left_of b r) s × Successor (positions b) (left_of b r) (right_of b r) s t)
  unfolding applies step
  successor r s t l ok =
      let n = positions b in
      let left = left_of b r in
      let right = right_of b r in
      let long = state-length b t ok in
      let exactly = leads-exactly b r s t long in
      let proper = valid-proper b v r l in (
        λ h.
            let m = matched n left s (exactly.0 h).0 in
            (m, subst (Successor n left right s) (exactly.0 h).1 (made-successor n left right s m)),
        λ w.
            exactly.1 (
              matching n left s w.0,
              successor-only n left right s w.0 proper.right_dash proper.right_bound t long w.1,
            ),
      )

  demand2 : Bytes b → Demand2 b
  unfolding applies goal_met
  demand2 bytes =
      let headed = v.sized.headed in
      record {
        rule_matches = λ r s. (matched (positions b) (left_of b r) s, matching (positions b) (left_of b r) s);
        goal_matches = λ g s. (matched (positions b) (goal_of b g) s, matching (positions b) (goal_of b g) s);
        matching_parts = in-two-parts (positions b);
        goal_lowest = lowest-met b;
        goal_none = none-met b;
        successor = successor;
        applied = λ r s h. (leads-exactly b r s (step b r s) (step-length b r s)).1 (h, refl);
        applied_state = λ r s l ok. step-state b v r l s ok;
        predecessor = λ r s earlier u. found-next b headed r s earlier u;
        no_predecessor = λ r s earlier. none-none b headed r s earlier;
        each_found = λ r s u ok there. call-complete b headed r s u ok there;
        only_those = λ r s. call-sound b headed r s from_first;
        each_once = λ r s. call-once b headed r s from_first;
        calls_end = λ r s. calls-enough b headed r s;
        reversible_exactly = λ r l two. reversible_exactly b r v l two;
        one_label = one_label b;
        relabelled_valid = relabelled_valid b v;
        relabelled_twice = relabel-twice b v;
        relabelled_applies = λ r s l h. (applies-relabelled b v r l s h, step-relabelled b v r l s);
        relabelled_meets = meets-relabelled b v;
        filled_least = λ maps t k. all-filled-front b maps t bytes k;
        zeros_pass = zeros-pass-test b v;
        passing_low = λ maps t k passes small.
            never-too-high b v (largest_entry b maps t) (all-low b maps t k small passes);
        replay_done = λ s rs. done-in-turn b s rs v;
        replay_stuck = stuck_at b;
      }

-- the search, by an estimate that passes
module _ (b : List ℕ) (h : List ℕ → Estimate) (v : Valid b) (passing : Passes b h) where
  -- the lists of a round that is made
  module _ (s : List ℕ) (l : Limits) (T u : ℕ) (made : RoundAt (system_of b) h l.steps l.cost s free T u) where
    abbrev Says : Log → Type 0
    Says x =
        ((p : List ℕ) → Member p (lists_of x) ↔ Logged (system_of b) h T l.steps s p) × Rising (lists_of x)

    visited : (x : Log) → round_log (system_of b) h T l.steps s ≡ x → Says x
    visited (log xs ended) e =
        log-at-round (system_of b) h (exercise-lawful v) l.steps l.cost s free T u made xs ended e

  demand3 : (s : List ℕ) → state_ok b s ≡ true → (l : Limits) → Demand3 b h s l
  demand3 s ok l =
      let k = kept v passing s l ok in
      record {
        spent = k.spent_iff;
        otherwise = k.otherwise;
        plan_exactly = k.plan_iff;
        no_plan_exactly = k.none_iff;
        plan = k.plan;
        first_cheapest = k.best;
        cheapest = k.cheapest;
        goal = goal-kept k v;
        first_threshold = thresholds.first_threshold (system_of b) h l.steps l.cost s;
        next_threshold = thresholds-follow v h s l;
        visited =
            λ T m.
            let made = (thresholds.member-round-at (system_of b) h l.steps l.cost s T m).1 in
            visited s l T made.0 made.1 _ refl;
        visits = visits-counted v h passing s l ok;
        every_estimate = λ h' passing'. same-found h h' v passing passing' s l ok;
        every_table =
            λ maps t k passes small.
            same-found h (estimate_of b maps t) v passing (tables-passing b maps t k small passes) s l ok;
      }

-- with no map lent
one_table : (b : List ℕ) → OneTable b
one_table b =
    record {
      filling = one-fill b;
      testing = one-test b;
      looking_up = λ s t. one-look-up b t s;
      searching = one-plan b;
    }

pub demands : Demands
demands =
    record {
      turned_back = demand1;
      language = demand2;
      search = demand3;
      search_by_tables = λ b maps t k passes small.
          demand3 b (estimate_of b maps t) (k.valid 0 (omega arith)) (tables-passing b maps t k small passes);
      record_by_record = batch-kept;
      one_table = one_table;
      program = par-means;
    }
