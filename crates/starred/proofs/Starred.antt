-- The starred exercises, proved together: `starred`. antt computes what can be computed from the definitions, which
-- `computing`, `searching` and `printing` open; that there is no other predecessor follows from the rule's form, and
-- that no list costs less than input E's table says from the certificate.
use mathlib.Core.Path.{◌≡◌, refl, sym, ap}
use mathlib.Core.Bool.{true, false}
use mathlib.Core.List.{List, flat_map}
use Prim.Native.Nat.{ℕ, ◌≤◌, ◌<◌}
use native.Mathlib.Omega.{arith}
use lib.Dec.{lit<, lit≤}
use lib.ListN.{get_or}
use Rattle.basics.proofs.Truth.{true-false}
use Rattle.refusals.specs.Answers.{told, outcome}
use Rattle.blocks.specs.Layout.{labels, rules, head_byte, label_count, abstract_count, abstract_states, map_byte}
use Rattle.blocks.specs.Layout.{map_at}
use Rattle.blocks.specs.Layout.{rule_width, rule_at, left_at, right_at, goal_at, block_length, frame_count}
use Rattle.blocks.specs.Layout.{frame_length}
use Rattle.blocks.specs.Layout.{cost_of, relabel_head}
use Rattle.blocks.specs.Validity.{sizes_ok, head_ok, length_ok, map_ok, side_ok, rule_terms_ok, goal_terms_ok, terms_ok}
use Rattle.blocks.specs.Validity.{rule_bound, bound_ok, shape_conditions, content_conditions, block_conditions, Valid}
use Rattle.blocks.specs.States.{labelled, state_ok}
use Rattle.blocks.proofs.Accepted.{accepted-valid}
use Rattle.psvn.specs.Rules.{bound, matches, rewritten, applies, step, leads, goal_met, meets, met_goal}
use Rattle.psvn.specs.Relabelling.{relabel_side, relabel_rule, relabel_goal, relabel_block, relabel_state}
use Rattle.psvn.specs.Ranks.{rank, unrank}
use Rattle.psvn.proofs.RankLaws.{unrank-abstract, rank-unrank}
use Rattle.distances.specs.Graphs.{LeastTable}
use Rattle.distances.specs.LowerBounds.{passes_at, passes}
use Rattle.distances.specs.LeastCosts.{least_by, least_within, least_costs}
use Rattle.distances.specs.Certificates.{certifies}
use Rattle.distances.proofs.Certificate.{certified}
use Rattle.tables.specs.Abstraction.{step_rank, graph_of}
use Rattle.tables.specs.Tables.{entry, estimate, passes_test}
use Rattle.tables.proofs.Promises.{zeros-pass-test}
use Rattle.maps.specs.Maps.{further_maps, maps_whole, further_ok, maps_ok, map_conditions, exercise_conditions}
use Rattle.map_tables.specs.MapTables.{largest_entry, all_pass}
use Rattle.map_fills.specs.MapFills.{all_filled}
use Rattle.filling.specs.FilledTables.{filled, LeastCost}
use Rattle.filling.proofs.LeastEntries.{least-entry}
use Rattle.rounds.specs.Systems.{lower}
use Rattle.rounds.specs.Rounds.{and_then, behind, take_up, conclude, capped, begin, arrive, offer, extend, visit}
use Rattle.rounds.specs.Rounds.{visits, round, rounds, rounds_from, search}
use Rattle.rounds.specs.Logs.{log_then, log_behind, log_take, log_arrive, log_extend, log_visit, round_log}
use Rattle.rounds.specs.Thresholds.{thresholds_from, thresholds}
use Rattle.search.specs.Exercises.{search_from}
use Rattle.backward.specs.Predecessors.{NextState, from_first, after, found, none_further, is_found, written_out}
use Rattle.backward.specs.Predecessors.{step_back}
use Rattle.backward.specs.Reversible.{reversible}
use Rattle.backward.proofs.NextState.{next-found, none_found}
use Rattle.backward.proofs.OneToOne.{one-predecessor, reversible-one, reversible_exactly}
use Rattle.psvn_calls.specs.Checking.{state_conditions}
use Rattle.psvn_calls.specs.Applying.{apply_conditions, apply_rule}
use Rattle.backward_calls.specs.Predecessors.{step_back_conditions, step_back_from}
use Rattle.backward_calls.specs.Reversing.{reversible_conditions, test_reversible}
use Rattle.table_calls.specs.WholeTables.{table_conditions, fill_table, test_table}
use Rattle.queries.specs.Queries.{query_conditions}
use Rattle.search_calls.specs.Searching.{tables_conditions, lent_conditions, search_conditions, find_plan}
use Rattle.frames.specs.Lines.{is_digit, digit_value, digit_of}
use Rattle.frames.specs.Reading.{frame_conditions, read_conditions}
use Rattle.records.specs.Records.{search_asked}
use Rattle.par_queries.specs.QueryLines.{query_line_conditions, answer_line}
use Rattle.par_openings.specs.Openings.{head_reads, exercise_count, open_conditions}
use Rattle.par_outputs.specs.Output.{par_output}
use Rattle.starred.specs.Starred.{Starred, example_block, example_state, example_image, room_example, pair_block}
use Rattle.starred.specs.Starred.{block_e, table_e, session_e}

-- the definitions that are opened to compute
computing : Unit {0}
unfolding example_block example_state example_image pair_block block_e table_e head_byte label_count abstract_count
    abstract_states map_byte map_at cost_of relabel_head rule_width rule_at left_at right_at goal_at block_length
    sizes_ok head_ok
    length_ok map_ok side_ok rule_terms_ok goal_terms_ok terms_ok rule_bound bound_ok shape_conditions
    content_conditions
    block_conditions labelled bound matches rewritten applies step leads state_conditions apply_conditions apply_rule
    step_back_conditions step_back_from reversible
    reversible_conditions test_reversible goal_met meets met_goal relabel_side relabel_rule relabel_goal relabel_block
    rank unrank
    step_rank passes_at passes certifies passes_test least_by least_within least_costs filled further_maps maps_whole
    further_ok
    maps_ok map_conditions exercise_conditions all_filled all_pass table_conditions fill_table test_table
computing = tt

-- and those for a search
searching : Unit {0}
unfolding relabel_state entry estimate largest_entry lower and_then behind take_up conclude capped begin arrive offer
    extend visit
    round rounds rounds_from search log_then log_behind log_take log_arrive log_extend log_visit round_log
    thresholds_from
    thresholds visits search_from query_conditions lent_conditions tables_conditions search_conditions find_plan
searching = tt

-- and those for what `par` prints
printing : Unit {0}
unfolding session_e is_digit digit_value digit_of flat_map frame_count frame_length frame_conditions read_conditions
    head_reads exercise_count
    open_conditions query_line_conditions search_asked answer_line par_output
printing = tt

-- the example block, its rule, and the two states
example-valid : Valid example_block
example-valid = accepted-valid example_block (unfold computing in refl)

example-form : reversible example_block 0 ≡ true
unfolding computing
example-form = refl

example_state_lem : state_ok example_block example_state ≡ true
unfolding computing
example_state_lem = refl

example-leads : leads example_block 0 example_state example_image ≡ true
unfolding computing
example-leads = refl

-- no other state is taken to the image
only : (u : List ℕ) → state_ok example_block u ≡ true → leads example_block 0 u example_image ≡ true → u ≡ example_state
only u ok h = one-predecessor example_block 0 example-form example_image u example_state ok example_state_lem h
    example-leads

example-found : step_back example_block 0 example_image from_first ≡ found example_state
example-found =
    next-found example_block example-valid.sized.headed 0 example_image from_first example_state
    (record {
      state = example_state_lem;
      leads_there = example-leads;
      above = omega arith;
      least = λ v ok h a. rw (only v ok h) (omega arith);
    })

example-none : step_back example_block 0 example_image (after example_state) ≡ none_further
example-none =
    none_found example_block example-valid.sized.headed 0 example_image (after example_state) (λ v ok h a.
    let b = rw (only v ok h) at a in omega arith)

-- the pair of rules
pair-valid : Valid pair_block
pair-valid = accepted-valid pair_block (unfold computing in refl)

pair-form : reversible pair_block 0 ≡ true
unfolding computing
pair-form = refl

pair-no-form : reversible pair_block 1 ≡ false
unfolding computing
pair-no-form = refl

pair-rule : 1 < rules pair_block
unfolding computing
pair-rule = lit< tt

pair-labels : 2 ≤ labels pair_block
unfolding computing
pair-labels = lit≤ tt

-- the table of input E
e-valid : Valid block_e
e-valid = accepted-valid block_e (unfold computing in refl)

e-least : LeastTable (graph_of (relabel_block block_e)) table_e
e-least = certified (graph_of (relabel_block block_e)) table_e (unfold computing in refl)

e-states : abstract_states block_e ≡ 8
unfolding computing
e-states = refl

e-entry : (k : ℕ) → k < 8 → LeastCost (relabel_block block_e) (unrank block_e k) (get_or table_e k 0)
unfolding entry
e-entry k l =
    let h = e-valid.sized.headed in
    rw (sym (ap (λ (i : ℕ). get_or table_e i 0) (rank-unrank block_e h k (omega (arith, e-states)))))
    (least-entry block_e e-valid table_e e-least (unrank block_e k) (unrank-abstract block_e h k))

pub starred : Starred
unfolding computing searching printing
starred =
    record {
      example_step = refl;
      example_only = λ u ok h e. reversible-one example_block 0 example-form u example_state ok example_state_lem h
          refl e;
      example_first = ap (λ (next : NextState). outcome (told (is_found next)) (written_out next room_example))
          example-found;
      example_no_further = ap (λ (next : NextState). outcome (told (is_found next)) (written_out next room_example))
          example-none;
      pair_reversible = refl;
      pair_one_to_one = reversible-one pair_block 0 pair-form;
      pair_not_reversible = refl;
      pair_not_one_to_one =
          λ one. true-false ((reversible_exactly pair_block 1 pair-valid pair-rule pair-labels).1 one) pair-no-form;
      table_filled = refl;
      table_least = e-entry;
      table_passes = refl;
      zeros_pass = refl;
      zeros_always_pass = zeros-pass-test;
      search_found = refl;
      search_thresholds = refl;
      search_round_visits = refl;
      search_spent = refl;
      search_cost_limit = refl;
      search_step_limit = refl;
      search_zeros = refl;
      search_at_goal = refl;
      par_prints = refl;
    }
