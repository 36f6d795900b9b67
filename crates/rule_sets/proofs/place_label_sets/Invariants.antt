-- `rule_sets::place_label_sets` meets its contract.
-- The loop's invariant: nothing but sets is written, and the sets before k are those of the code's rules.
use mathlib.Core.List.{List}
use Prim.Native.Nat.{ℕ, ◌≤◌, ◌<◌, ◌+◌, ◌*◌, ◌/◌, ◌%◌}
use lib.ListN.{get_or}
use Rattle.basics.specs.Parts.{Outside}
use Rattle.words.specs.Code.{sets_place, counts_place}
use Rattle.rule_sets.specs.Agreeing.{Agreeing}
use Rattle.rule_sets.proofs.place_label_sets.Given as goal

-- the sets before k
abbrev pub Written : List ℕ → ℕ → ℕ → Type 0
Written code rules k = (m : ℕ) → m < k → Agreeing code rules (m / 16) (m % 16) (get_or code (sets_place + m) 0)

abbrev pub invariant-loop-k : goal.invariant-loop-k
invariant-loop-k l =
    (l.k ≤ 16 * l.n) × (l.rules ≤ 64) × (l.n ≤ 16)
    × Outside sets_place counts_place l.initial.code l.code
    × Written l.code l.rules l.k
