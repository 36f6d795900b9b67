-- `rule_sets::rules_where` meets its contract.
-- The loop's invariant: the set has the rules from r on that pass, rule r as its first bit.
use Rattle.std.proofs.Common.{◌≡◌, ℕ, ◌-◌, ◌^◌, ◌<◌, Bool}
use Rattle.basics.proofs.SetMaking.{From}
use Rattle.rule_sets.proofs.rules_where.Given as goal

abbrev pub invariant-loop-r : goal.invariant-loop-r
invariant-loop-r g l =
    (l.set < 2 ^ (l.rules - l.r))
    × ((f : ℕ → Bool) → ((r : ℕ) (b : Bool) → r < l.rules → g.F.Fn.post l.test (r, tt) b → b ≡ f r)
    → From f l.rules l.r l.set)
