-- A query that is not refused is answered as specs/Meaning.antt says (`answer-means`), by any estimate that passes; the
-- numbers of its answer are bytes (`answered-small`), and no record is longer than 75 bytes (`answered-short`,
-- `record-short`).
-- What `par` prints, and the records of a batch, rest on this.
use mathlib.Core.Path.{◌≡◌, refl, ap, subst}
use mathlib.Core.List.{List}
use Prim.Native.Nat.{ℕ, ◌+◌, ◌≤◌, ◌<◌}
use native.Mathlib.Omega.{arith}
use lib.ListN.{length, drop, length-append}
use Rattle.basics.specs.Lists.{Bytes}
use Rattle.basics.proofs.ByteLists.{bytes_drop}
use Rattle.refusals.specs.Answers.{Answer, refused, told, verdict, answered}
use Rattle.blocks.specs.Layout.{positions}
use Rattle.blocks.specs.Validity.{Valid}
use Rattle.rounds.specs.Systems.{Estimate}
use Rattle.rounds.specs.Rounds as rounds
use Rattle.queries.specs.Queries.{longest_plan}
use Rattle.queries.proofs.QueryLaws.{QueryAccepted, query-accepted}
use Rattle.search.specs.Exercises.{Passes}
use Rattle.search.specs.Promises.{SearchKept, GoalKept}
use Rattle.search.proofs.Demand.{kept, visits-within, cost-within, plan-reaching, goal-kept}
use Rattle.records.specs.Records.{number_of, start_of, limits_of, record_conditions, search_asked, record_room}
use Rattle.records.specs.Records.{plan_front, answer_bytes, goal_asked, record_of, answer_record}
use Rattle.records.specs.Meaning.{AnswerMeans}
use Rattle.records.proofs.AnswerBytes.{bytes-within, answer-small, four_below, four-back}

-- a record has eleven bytes in front of its plan, and ten where there is none
bytes-short :
    (goal : ℕ) (a : rounds.Answer) → ((u c : ℕ) (p : List ℕ) → a ≡ rounds.found u p c → length p ≤ longest_plan)
    → length (answer_bytes goal a) ≤ record_room
bytes-short goal (rounds.found u p c) few =
    omega (arith, few u c p refl, length-append (plan_front (length p) c (rounds.visits (rounds.found u p c))) p)
bytes-short goal (rounds.no_plan u) few = omega arith
bytes-short goal (rounds.spent u) few = omega arith

module _ {b : List ℕ} {h : List ℕ → Estimate} (valid : Valid b) (passing : Passes b h) (q : List ℕ) where
  -- the answer of the search that is asked for, and the bytes that tell it with its goal
  abbrev answer : rounds.Answer
  answer = search_asked b h q

  abbrev told-bytes : List ℕ
  told-bytes = answer_bytes (goal_asked b q answer) answer

  module _ (accepted : verdict (record_conditions b q) ≡ told tt) where
    -- the start is a state, and the step limit is not too large
    content : QueryAccepted b (start_of b q) (limits_of b q)
    content = query-accepted b (start_of b q) (limits_of b q) accepted

    promised : SearchKept b h (start_of b q) (limits_of b q) answer
    unfolding search_asked
    promised = kept valid passing (start_of b q) (limits_of b q) content.state

    -- a plan has at most as many steps as a step limit may have
    few-steps : (u c : ℕ) (p : List ℕ) → answer ≡ rounds.found u p c → length p ≤ longest_plan
    few-steps u c p e = omega (arith, (promised.plan u c p e).0.steps, content.steps_few)

    -- a plan's goal is below FF
    goal-low : (u c : ℕ) (p : List ℕ) → answer ≡ rounds.found u p c → goal_asked b q answer ≤ 255
    goal-low u c p e =
        let told-goal : rounds.Answer → Type 0 = λ a. GoalKept b (start_of b q) a (goal_asked b q a) in
        let found-goal = subst told-goal e (goal-kept promised valid) in
        omega (arith, found-goal.1, ap (goal_asked b q) e)

    -- a plan has few steps, and each is the number of one of at most 64 rules
    pub answered-small : Bytes told-bytes
    answered-small =
        answer-small (goal_asked b q answer) answer (λ u c p e.
        let numbers = (plan-reaching promised u c p e).numbers in
        let few = valid.sized.headed.sizes.r_high in
        (goal-low u c p e, omega (arith, few-steps u c p e), bytes-within p (λ i l. omega (arith, numbers i l, few))))

    pub answered-short : length told-bytes ≤ record_room
    answered-short = bytes-short (goal_asked b q answer) answer few-steps

    pub answer-means : Bytes q → AnswerMeans b h q answer
    answer-means small =
        let below : (k : ℕ) → number_of (drop k q) < 4294967296 = λ k. four_below (drop k q) (bytes_drop k q small) in
        record {
          kept = promised;
          goal = goal-kept promised valid;
          cost_whole =
              four-back (rounds.plan_cost answer) (omega (arith, cost-within promised, below (positions b + 1)));
          visits_whole =
              four-back (rounds.visits answer) (omega (arith, visits-within promised, below (positions b + 5)));
        }

  -- the record that answers a query fits its room
  pub record-short : length (answer_record b h q) ≤ record_room
  unfolding answer_record
  record-short = by-verdict (verdict (record_conditions b q)) refl where
    by-verdict :
        (v : Answer (Unit {0})) → verdict (record_conditions b q) ≡ v
        → length (record_of b q (answered v answer)) ≤ record_room
    by-verdict (refused k) e = omega arith
    by-verdict (told u) e = answered-short e
