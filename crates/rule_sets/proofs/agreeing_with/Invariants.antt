-- `rule_sets::agreeing_with` meets its contract.
-- The loop's invariant: the rest has the labels from i on, and the set is that of the labels before them.
use mathlib.Core.Path.{◌≡◌}
use Prim.Native.Nat.{◌≤◌, ◌/◌, ◌^◌}
use Rattle.rule_sets.specs.Agreeing.{agreeing}
use Rattle.rule_sets.proofs.agreeing_with.Given as goal

abbrev pub invariant-loop-i : goal.invariant-loop-i
invariant-loop-i l =
    (l.i ≤ l.n) × (l.n ≤ 16) × (l.rest ≡ l.word / 16 ^ l.i) × (l.set ≡ agreeing l.code l.word l.i)
