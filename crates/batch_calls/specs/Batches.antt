-- Many queries in one call (document 02, F-4): `find_plans` is the answer with the final contents of the answer
-- records, for every input, defined record by record (`answers_of`), and `BatchKept` what the call promises: each
-- record is what a single call gives for its query (`call_bytes`), with demand 3. `batch_conditions` turn the call
-- back.
use Rattle.std.specs.Prelude.{◌≡◌, Bool, ◌&&◌, List, ◌∷◌, ◌++◌, ℕ, ◌*◌, ◌/◌, ◌≤◌, ◌<◌, leb, eqb, length, take, drop}
use Rattle.std.specs.Prelude.{replicate}
use Rattle.basics.specs.Lists.{at_front, joined}
use Rattle.refusals.specs.Answers.{Answer, refused, told, Condition, ◌unless◌, verdict, Outcome, outcome, guarded}
use Rattle.maps.specs.Maps.{exercise_conditions}
use Rattle.queries.specs.Queries.{longest_plan}
use Rattle.rounds.specs.Systems.{Estimate}
use Rattle.search.specs.Exercises.{estimate_of}
use Rattle.records.specs.Records.{query_length, start_of, limits_of, record_conditions, search_asked, record_room}
use Rattle.records.specs.Records.{answer_bytes, refusal_bytes, goal_asked, answer_record}
use Rattle.records.specs.Meaning.{AnswerMeans}
use Rattle.search_calls.specs.Searching.{SearchAnswer, tables_conditions, find_plan, told_by_status}

-- the most query records, and how many of them so many bytes hold
abbrev pub most_records : ℕ
most_records = 256

abbrev pub record_count : List ℕ → ℕ → ℕ
record_count b bytes = bytes / query_length b

-- query record i
abbrev pub query_at : List ℕ → List ℕ → ℕ → List ℕ
query_at b queries i = take (query_length b) (drop (i * query_length b) queries)

-- "answer records of 75 bytes: the bytes of the printed line .., zeros behind"
abbrev pub whole_record : List ℕ → List ℕ
whole_record bytes = at_front bytes (replicate record_room 0)

-- the answer record of query record i, by the estimate h; and all of them, one behind the other
abbrev pub answer_at : List ℕ → (List ℕ → Estimate) → List ℕ → ℕ → List ℕ
answer_at b h queries i = whole_record (answer_record b h (query_at b queries i))

abbrev pub answers_of : List ℕ → (List ℕ → Estimate) → List ℕ → List ℕ
answers_of b h queries = joined (record_count b (length queries)) (answer_at b h queries)

-- "It refuses with 16 when the count is 0 or over 256, the query bytes are no whole number of records, or the answers
-- do not fit": of so many bytes, with `room` for the answers
unfoldable pub records_ok : List ℕ → ℕ → ℕ → Bool
records_ok b bytes room =
    let count = record_count b bytes in
    leb 1 count && leb count most_records && eqb (count * query_length b) bytes && leb (count * record_room) room

-- 3 to 7, 14 and 15, then 16, then 12 and 13; 8 and 10 turn back a record alone
unfoldable pub batch_conditions : List ℕ → List ℕ → ℕ → List ℕ → ℕ → List Condition
batch_conditions b maps bytes t room =
    exercise_conditions b maps ++ (16 unless records_ok b bytes room ∷ tables_conditions b maps t)

-- the answer records stand at the front, by the estimate of the tables of all maps, and how many bytes they have is
-- told; further bytes keep their contents
unfoldable pub find_plans : List ℕ → List ℕ → List ℕ → List ℕ → List ℕ → Outcome ℕ
find_plans b maps queries t answers =
    guarded (verdict (batch_conditions b maps (length queries) t (length answers))) answers
    (outcome (told (record_count b (length queries) * record_room))
    (at_front (answers_of b (estimate_of b maps t) queries) answers))

-- answer record i
abbrev pub record_at : List ℕ → ℕ → List ℕ
record_at answers i = take record_room (drop (i * record_room) answers)

-- what a single call gives, as the bytes of an answer: its plan is read from the buffer that it was lent
abbrev pub call_bytes : Answer SearchAnswer → List ℕ → List ℕ
call_bytes (refused number) plan = refusal_bytes number
call_bytes (told a) plan = answer_bytes a.plan.goal (told_by_status a.status a.plan plan)

-- what is promised of the record that answers the query q
pub record RecordKept (b maps q t record-bytes : List ℕ) : Type 0 where
  -- "Record by record this equals single calls with one table": the call for the query's start and limits, lent room
  -- for every plan
  pub single :
      (plan : List ℕ) → longest_plan ≤ length plan
      → (let o = find_plan b maps (start_of b q) (limits_of b q) t plan in
      record-bytes ≡ whole_record (call_bytes o.answer o.out))
  -- "A query refused with 8 or 10 gets FF and its number"
  pub refused_query :
      (k : ℕ) → verdict (record_conditions b q) ≡ refused k → record-bytes ≡ whole_record (refusal_bytes k)
  -- any other one the answer of the search that it asks for, with demand 3
  pub query :
      verdict (record_conditions b q) ≡ told tt
      → (let a = search_asked b (estimate_of b maps t) q in
      (record-bytes ≡ whole_record (answer_bytes (goal_asked b q a) a)) × AnswerMeans b (estimate_of b maps t) q a)

-- as many bytes are told as the records have, and each record keeps what is promised of it, whatever the others are
abbrev pub BatchKept : List ℕ → List ℕ → List ℕ → List ℕ → Answer ℕ → List ℕ → Type 0
BatchKept b maps queries t (told bytes) answers =
    (bytes ≡ record_count b (length queries) * record_room)
    × ((i : ℕ) → i < record_count b (length queries) → RecordKept b maps (query_at b queries i) t (record_at answers i))
BatchKept b maps queries t (refused number) answers = Unit {0}
