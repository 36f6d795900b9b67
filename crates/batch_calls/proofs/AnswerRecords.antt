-- An answer record has 75 bytes (`whole_length`), also written over zeros (`written-whole`); record i of the answer
-- records is that of query record i (`record-at`); query records have a query's length (`query-whole`) and are lists of
-- bytes where all of them are (`query-small`).
-- The functions that answer query records, and their promise, rest on these.
use mathlib.Core.Path.{◌≡◌, sym, ap, ap₂, ◌∙◌}
use mathlib.Core.List.{List, ◌++◌}
use Prim.Native.Nat.{ℕ, ◌+◌, ◌-◌, ◌*◌, ◌≤◌, ◌<◌}
use native.Mathlib.Omega.{arith}
use native.Mathlib.Nat.{mul-le-mul_right, suc-mul}
use lib.ListN.{length, take, drop, replicate, length-append, length-drop, length-replicate}
use lib.Seq.{length-take-le}
use Rattle.basics.specs.Lists.{at_front, joined, Bytes}
use Rattle.basics.proofs.Lists.{front-within, joined-part}
use Rattle.basics.proofs.ByteLists.{bytes_drop, bytes_take}
use Rattle.blocks.specs.Validity.{Valid}
use Rattle.rounds.specs.Systems.{Estimate}
use Rattle.search.specs.Exercises.{Passes}
use Rattle.records.specs.Records.{query_length, record_room, answer_record, Written}
use Rattle.records.proofs.AnswerMeaning.{record-short}
use Rattle.batch_calls.specs.Batches.{query_at, whole_record, answer_at, record_at}

-- the zeros that a record stands over
zeros-length : length (replicate {A = ℕ} record_room 0) ≡ record_room
zeros-length = length-replicate {A = ℕ} record_room 0

pub whole_length : (bytes : List ℕ) → length bytes ≤ record_room → length (whole_record bytes) ≡ record_room
whole_length bytes l =
    let zeros : List ℕ = replicate record_room 0 in
    let behind = drop (length bytes) zeros in
    omega (arith, length-append bytes behind, length-drop (length bytes) zeros, zeros-length)

-- as many zeros as a record has bytes, at the front
pub zeros-front :
    {zeros : List ℕ} (old : List ℕ) → zeros ≡ replicate record_room 0
    → zeros ++ drop record_room old ≡ at_front (replicate record_room 0) old
zeros-front old e =
    ap (λ (z : List ℕ). z ++ drop record_room old) e
    ∙ ap (λ (k : ℕ). replicate record_room 0 ++ drop k old) (sym zeros-length)

-- an answer over zeros at the front is a whole record there
pub written-whole :
    {bytes zeroed new : List ℕ} {n : ℕ} (old : List ℕ) → zeroed ≡ at_front (replicate record_room 0) old
    → length bytes ≤ record_room → Written bytes zeroed n new → new ≡ at_front (whole_record bytes) old
written-whole {bytes} old e l w =
    w.front ∙ ap (at_front bytes) e ∙ front-within bytes (replicate record_room 0) old (omega (arith, zeros-length))

module _ {b : List ℕ} {h : List ℕ → Estimate} (valid : Valid b) (passing : Passes b h) (queries : List ℕ) where
  pub answer-length : (i : ℕ) → length (answer_at b h queries i) ≡ record_room
  answer-length i =
      let q = query_at b queries i in whole_length (answer_record b h q) (record-short valid passing q)

  pub record-at :
      (count i : ℕ) → i < count → (old : List ℕ)
      → record_at (at_front (joined count (answer_at b h queries)) old) i ≡ answer_at b h queries i
  record-at count i l old =
      joined-part (answer_at b h queries) record_room count (λ r m. answer-length r)
      (drop (length (joined count (answer_at b h queries))) old) i l

module _ (b queries : List ℕ) where
  -- one record more lies within so many
  pub query-inside :
      (count i : ℕ) → i < count → count * query_length b ≤ length queries
      → i * query_length b + query_length b ≤ length queries
  query-inside count i l whole =
      omega (arith, whole, suc-mul i (query_length b), mul-le-mul_right (query_length b) l)

  -- the part of the queries from record i on, as long as a query, is that record
  module _ (i w : ℕ) (e : w ≡ query_length b) where
    pub query_inside :
        (count : ℕ) → i < count → count * query_length b ≤ length queries → i * w + w ≤ length queries
    query_inside count l whole = rw e (query-inside count i l whole)

    pub query-part : take (i * w + w - i * w) (drop (i * w) queries) ≡ query_at b queries i
    query-part =
        let n : i * w + w - i * w ≡ query_length b = omega (arith, e) in
        ap₂ (λ (k m : ℕ). take k (drop m queries)) n (ap (λ (k : ℕ). i * k) e)

  pub query-whole :
      (count i : ℕ) → i < count → count * query_length b ≤ length queries
      → length (query_at b queries i) ≡ query_length b
  query-whole count i l whole =
      length-take-le (query_length b) (drop (i * query_length b) queries)
      (omega (arith, query-inside count i l whole, length-drop (i * query_length b) queries))

  pub query-small : Bytes queries → (i : ℕ) → Bytes (query_at b queries i)
  query-small small i =
      bytes_take (query_length b) (drop (i * query_length b) queries) (bytes_drop (i * query_length b) queries small)
