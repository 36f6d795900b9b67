-- `tables::estimates::relabelled_rank` meets its contract.
use mathlib.Core.Path.{◌≡◌, refl, sym, ap₂, ◌∙◌}
use Prim.Native.Nat.{◌<◌, ◌+◌, ◌*◌}
use native.Mathlib.Nat.{mul-le-mul}
use native.Mathlib.Omega.{arith}
use borrow.Author.Rules.{rules}
use Rattle.blocks.specs.Layout.{positions}
use Rattle.blocks.proofs.StateLaws.{state-length, state-label}
use Rattle.tables.proofs.RelabelledRanks.{part_rank, part-more, part-all, part_small, whole_below}
use Rattle.tables.proofs.estimates.relabelled_rank.Goals as goal
use Rattle.tables.proofs.estimates.relabelled_rank.Goals.{After-from}

pub loop-i-init : goal.loop-i-init
loop-i-init c = (c.positions-n.ensures.0, search rules, refl)

pub bounds-state-i : goal.bounds-state-i
bounds-state-i c =
    let n = state-length c.args.block.now c.args.state.now c.requires.1 in
    search rules

pub abstract_label-label-requires : goal.abstract_label-label-requires
abstract_label-label-requires c =
    let i = c.loop-i.i in
    let l : i < positions c.args.block.now = omega arith in
    (c.requires.0.sized, l, state-label c.args.block.now c.args.state.now c.requires.1 i l)

pub overflow_mul-k : goal.overflow_mul-k
overflow_mul-k c =
    let l = c.loop-i in
    let k = part_small c.args.block.now c.args.state.now c.requires.0 c.requires.1 l.i (omega arith) in
    omega (
      arith,
      mul-le-mul {n₁ = l.k} {m₁ = c.abstract_count.result} {n₂ = 16384} {m₂ = 16} (omega arith) (omega arith),
    )

-- one label more
more :
    (c : After-from)
    → let a = c.args in
    let l = c.loop-i in
    l.k * c.abstract_count.result + c.from.result
    ≡ part_rank a.block.now a.state.now (l.i + 1)
more c =
    let a = c.args in
    let l = c.loop-i in
    ap₂ ◌+◌ (ap₂ ◌*◌ l.invariant.2 c.abstract_count.ensures.0)
    (c.from.ensures ∙ c.from-byte.ensures ∙ c.abstract_label-label.ensures)
    ∙ sym (part-more a.block.now a.state.now l.i (omega arith))

pub overflow_add-k : goal.overflow_add-k
overflow_add-k c =
    let l = c.loop-i in
    omega (
      arith,
      more c,
      part_small c.args.block.now c.args.state.now c.requires.0 c.requires.1 (l.i + 1) (omega arith),
    )

pub loop-i-preserved : goal.loop-i-preserved
loop-i-preserved c = (c.loop-i.invariant.0, search rules, more c)

pub returns : goal.returns
returns c =
    let b = c.args.block.now in
    let t = c.args.state.now in
    let l = c.loop-i in
    let e = l.invariant.2 ∙ part-all b t l.i (omega arith) in
    (e, omega (arith, whole_below b t c.requires.0 c.requires.1))
