-- `records::answering::answer_query` meets its contract.
-- Refused with 8 or 10, or the bytes of the answer that the search gives, by whatever estimate the arrays rate by.
use mathlib.Core.Path.{◌≡◌, sym, ap, ap₂, ◌∙◌, subst}
use mathlib.Core.Bool.{true}
use mathlib.Core.List.{List}
use Prim.Native.Nat.{ℕ, ◌+◌, ◌≤◌}
use native.Mathlib.Omega.{arith}
use lib.ListN.{length, take}
use lib.Seq.{length-take-le}
use Rattle.refusals.specs.Answers.{Answer, told, verdict, answered}
use Rattle.blocks.specs.Layout.{positions}
use Rattle.blocks.specs.States.{state_ok}
use Rattle.queries.specs.Queries.{longest_plan, query_conditions}
use Rattle.queries.specs.declared.Limits.{Limits}
use Rattle.queries.proofs.QueryLaws.{QueryAccepted, query-accepted}
use Rattle.rounds.specs.Systems.{Estimate}
use Rattle.search.specs.Exercises.{search_from, plan_goal}
use Rattle.search.specs.Parts.{FoundWithin, answer_of, ending_goal, Answers}
use Rattle.search.specs.declared.running.Ending.{Ending}
use Rattle.records.specs.Records.{start_of, limits_of, record_conditions, search_asked}
use Rattle.records.specs.Records.{answer_bytes, goal_asked, record_of, answer_record, Written}
use Rattle.records.proofs.RecordLaws.{found-more}
use Rattle.records.proofs.answering.answer_query.Goals as goal

-- the start is a part of the query
part_length : (q : List ℕ) (n p : ℕ) → n ≡ p → length q ≡ p + 9 → n ≡ length (take n q)
part_length q n p e l = sym (length-take-le n q (omega (arith, e, l)))

-- the query's start and limits
module _ (b q : List ℕ) (n : ℕ) (l : Limits) (is : n ≡ positions b) (asked : l ≡ limits_of b q) where
  begins : take n q ≡ start_of b q
  begins = ap (λ (k : ℕ). take k q) is

  judged : verdict (record_conditions b q) ≡ verdict (query_conditions b (take n q) l)
  judged = sym (ap₂ (λ (s : List ℕ) (m : Limits). verdict (query_conditions b s m)) begins asked)

  -- what is written by a verdict, by the estimate h
  module _ (h : List ℕ → Estimate) (out : List ℕ) (m : ℕ) (new : List ℕ) where
    abbrev Shown : Answer (Unit {0}) → Type 0
    Shown v = Written (record_of b q (answered v (search_asked b h q))) out m new

    shown :
        (v : Answer (Unit {0})) → v ≡ verdict (query_conditions b (take n q) l) → Shown v
        → Written (answer_record b h q) out m new
    unfolding answer_record
    shown v e w = subst Shown (e ∙ sym judged) w

  -- the query is accepted
  module _ (accepted : told tt ≡ verdict (query_conditions b (take n q) l)) where
    good : QueryAccepted b (start_of b q) (limits_of b q)
    good = query-accepted b (start_of b q) (limits_of b q) (judged ∙ sym accepted)

    state : state_ok b (take n q) ≡ true
    state = ap (state_ok b) begins ∙ good.state

    few : l.steps ≤ longest_plan
    few = omega (arith, good.steps_few, ap (λ (m : Limits). m.steps) asked)

    within : (ending : Ending) → FoundWithin l.steps ending → FoundWithin longest_plan ending
    within ending w = found-more l.steps longest_plan few ending w

    -- what the search answers
    module _
        (h : List ℕ → Estimate) (rules rules' : List ℕ) (ending : Ending)
        (answers : Answers b h (take n q) l rules rules' ending)
      where
        searched : answer_of rules' ending ≡ search_asked b h q
        unfolding search_asked
        searched = answers.told ∙ ap₂ (search_from b h) begins asked

        goal-told : ending_goal ending ≡ goal_asked b q (search_asked b h q)
        unfolding search_asked
        goal-told =
            answers.goal
            ∙ ap₂ (λ (s : List ℕ) (m : Limits). plan_goal b s (search_from b h s m)) begins asked

        answer-written :
            (out : List ℕ) (m : ℕ) (new : List ℕ)
            → Written (answer_bytes (ending_goal ending) (answer_of rules' ending)) out m new
            → Written (answer_record b h q) out m new
        answer-written out m new w =
            shown h out m new (told tt) accepted
            (subst (λ (x : List ℕ). Written x out m new) (ap₂ answer_bytes goal-told searched) w)

pub slice_bounds-start-end : goal.slice_bounds-start-end
slice_bounds-start-end c = part_length c.args.query.now _ _ c.positions.ensures.0 c.requires.1

pub find_plan-ending-requires : goal.find_plan-ending-requires
find_plan-ending-requires c =
    let q = c.args.query.now in
    let is = c.positions.ensures.0 in
    let asked = c.limits_of-limits.ensures in
    let accepted = c.in-Ok.ensures in
    let few = few c.args.block.now q _ _ is asked accepted in
    (c.requires.0, state c.args.block.now q _ _ is asked accepted, few, few)

pub write_answer-requires : goal.write_answer-requires
write_answer-requires c =
    let w = c.find_plan-ending.ensures.found_within in (
      within c.args.block.now c.args.query.now _ _ c.positions.ensures.0 c.limits_of-limits.ensures c.in-Ok.ensures _ w,
      c.requires.2,
    )

pub returns-in-Ok : goal.returns-in-Ok
returns-in-Ok c = λ h rates.
    answer-written c.args.block.now c.args.query.now _ _ c.positions.ensures.0 c.limits_of-limits.ensures
    c.in-Ok.ensures h _ _ _ (c.find_plan-ending.ensures.by_index h rates) _ _ _ c.write_answer.ensures

pub returns-in-Err : goal.returns-in-Err
returns-in-Err c = λ h rates.
    shown c.args.block.now c.args.query.now _ _ c.positions.ensures.0 c.limits_of-limits.ensures h _ _ _ _
    c.in-Err.ensures c.put_refusal.ensures
