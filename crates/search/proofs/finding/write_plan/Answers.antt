-- `search::finding::write_plan` meets its contract.
-- What is copied are the rules of the list, one after another.
use mathlib.Core.Path.{◌≡◌, refl, sym, ap, ◌∙◌}
use mathlib.Core.List.{List, ◌∷◌}
use Prim.Native.Nat.{ℕ, zero, suc, ◌+◌, ◌-◌, ◌≤◌}
use native.Mathlib.Omega.{arith}
use lib.ListN.{length, get_or, take, drop}
use lib.Seq.{drop-cons}
use Rattle.basics.specs.Lists.{tabulate_from}
use Rattle.basics.proofs.Lists.{length-tabulate}
use Rattle.search.specs.Run.{rule_at, rules_from}
use Rattle.search.proofs.finding.write_plan.Goals as goal

-- the elements from i on
read-from :
    (xs : List ℕ) (n i : ℕ) → i + n ≤ length xs
    → take n (drop i xs) ≡ tabulate_from i n (λ j. get_or xs j 0)
read-from xs zero i l = refl
read-from xs (suc n) i l =
    ap (take (suc n)) (drop-cons xs i 0 (omega arith))
    ∙ ap (λ (t : List ℕ). get_or xs i 0 ∷ t) (read-from xs n (suc i) (omega arith))

pub returns : goal.returns
returns c =
    let rules = c.args.run.now.rules in
    let front = rules_from c.args.run.now 0 c.args.steps in
    let same : c.args.steps - 0 ≡ c.args.steps = omega arith in
    let copied : c.copy_from_slice.new.self ≡ front =
    c.copy_from_slice.ensures.after ∙ read-from rules c.args.steps 0 (omega arith)
    ∙ ap (λ (n : ℕ). tabulate_from 0 n (rule_at c.args.run.now)) (sym same) in
    let long : length front ≡ c.args.steps = length-tabulate (c.args.steps - 0) (rule_at c.args.run.now) ∙ same in
    rw (copied, long) refl
