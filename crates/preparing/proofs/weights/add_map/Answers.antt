-- `preparing::weights::add_map` meets its contract.
use mathlib.Core.Path.{ap, ap₂, ◌∙◌}
use Prim.Native.Nat.{ℕ, ◌+◌, ◌*◌, ◌/◌, ◌%◌}
use native.Mathlib.Omega.{arith}
use lib.ListN.{get_or}
use Rattle.preparing.specs.Weights.{at_first, three_ranks}
use Rattle.preparing.proofs.WeightLaws.{added_none, added_more, added-all}
use borrow.Author.Rules.{rules}
use Rattle.preparing.proofs.weights.add_map.Goals as goal

pub loop-k-init : goal.loop-k-init
loop-k-init c = (search rules, added_none (search rules))

pub overflow_add-weight : goal.overflow_add-weight
overflow_add-weight c = omega (arith, c.requires.0 c.loop-k.k, c.from.ensures, c.begins_at.ensures.1)

pub overflow_add-packed : goal.overflow_add-packed
overflow_add-packed c =
    let l = c.loop-k in
    omega (
      arith,
      c.from.ensures,
      c.requires.0 l.k,
      c.begins_at.ensures.1,
      c.requires.1,
    )

pub loop-k-preserved : goal.loop-k-preserved
loop-k-preserved c =
    let l = c.loop-k in
    let a = c.args in
    let behind = 65536 * (get_or l.singles l.k 0 % three_ranks) in
    let front = get_or a.own.now l.k 0 + at_first a.begin (l.k / 16) in (
      search rules,
      added_more (omega (arith, c.loop-k-test.true)) l.invariant.1
          (ap₂ (λ (x y : ℕ). x + y + behind) c.from.ensures c.begins_at.ensures.0
          ∙ ap (λ (x : ℕ). front + 65536 * (x % three_ranks)) (l.invariant.1.rest l.k (omega arith))),
    )

pub returns : goal.returns
returns c = let l = c.loop-k in added-all (omega arith) l.invariant.1
