-- `batch_calls::answering::answer_records` meets its contract.
-- The loop's invariant: by whatever estimate the arrays rate by, the answer records of the query records passed stand
-- at the front, and the rest is as it was.
use mathlib.Core.Path.{◌≡◌}
use mathlib.Core.List.{List}
use Prim.Native.Nat.{ℕ}
use lib.ListN.{length}
use Rattle.basics.specs.Lists.{at_front, joined}
use Rattle.rounds.specs.Systems.{Estimate}
use Rattle.search.specs.OnWords.{Rates}
use Rattle.batch_calls.specs.Batches.{answer_at}
use Rattle.batch_calls.proofs.answering.answer_records.Given as goal

abbrev pub invariant-loop-i : goal.invariant-loop-i
invariant-loop-i l =
    (length l.answers ≡ length l.initial.answers)
    × ((h : List ℕ → Estimate) → Rates l.block l.changes l.entries h
    → l.answers ≡ at_front (joined l.i (answer_at l.block h l.queries)) l.initial.answers)
