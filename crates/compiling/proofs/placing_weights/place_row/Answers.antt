-- `compiling::placing_weights::place_row` meets its contract.
use mathlib.Core.Path.{◌≡◌, ap, ◌∙◌}
use Prim.Native.Nat.{ℕ, ◌≤◌, ◌<◌, ◌+◌, ◌*◌}
use native.Mathlib.Nat.{mul-le-mul_right}
use native.Mathlib.Omega.{arith}
use mathlib.Core.List.{List}
use lib.ListN.{length}
use lib.Seq.{get_or-set_same, get_or-set_other}
use borrow.Author.Count.{below_more}
use Rattle.basics.proofs.Parts.{outside-none, outside_set}
use Rattle.blocks.specs.Layout.{label_count, abstract_count, map_at}
use Rattle.blocks.specs.Validity.{Valid}
use Rattle.blocks.proofs.Accepted.{map_below}
use Rattle.compiling.proofs.WeightsPlaced.{low-more}
use borrow.Author.Rules.{rules}
use Rattle.compiling.proofs.placing_weights.place_row.Goals as goal

pub label_count-count-requires : goal.label_count-count-requires
label_count-count-requires c = (c.requires.0.sized.headed, c.requires.1)

pub loop-x-init : goal.loop-x-init
loop-x-init c =
    let a = c.args in (
      search rules,
      search rules,
      outside-none (16 * a.i) (16 * a.i + 16) a.singles.now,
      λ k l. absurd (omega arith),
      λ low. low,
    )

pub abstract_label-requires : goal.abstract_label-requires
abstract_label-requires c = (c.requires.0.sized, c.requires.1, omega arith)

-- the weight of a label is no higher than that of all
high :
    (b : List ℕ) (i x p y : ℕ) → Valid b → x < label_count b i → abstract_count b i * p ≤ 16384 → y ≡ map_at b i x
    → y * p ≤ 16384
high b i x p y h l few e =
    let m = map_below b h i x l in
    let le : y ≤ abstract_count b i = omega arith in
    omega (arith, few, mul-le-mul_right p le)

pub overflow_mul-singles : goal.overflow_mul-singles
overflow_mul-singles c =
    let a = c.args in
    let h = c.requires in
    let e = c.from-y.ensures ∙ c.from-byte.ensures ∙ c.abstract_label.ensures in
    omega (arith, high a.block.now a.i c.loop-x.x a.p c.from-y.result h.0 (omega arith) h.2 e)

pub overflow_cast-singles : goal.overflow_cast-singles
overflow_cast-singles c =
    let a = c.args in
    let h = c.requires in
    let e = c.from-y.ensures ∙ c.from-byte.ensures ∙ c.abstract_label.ensures in
    omega (arith, high a.block.now a.i c.loop-x.x a.p c.from-y.result h.0 (omega arith) h.2 e)

pub loop-x-preserved : goal.loop-x-preserved
loop-x-preserved c =
    let a = c.args in
    let h = c.requires in
    let l = c.loop-x in
    let at = 16 * a.i + l.x in
    let y = c.from-y.result * a.p in
    let e = c.from-y.ensures ∙ c.from-byte.ensures ∙ c.abstract_label.ensures in
    let low = high a.block.now a.i l.x a.p c.from-y.result h.0 (omega arith) h.2 e in
    let within : at < length l.singles = omega arith in (
      l.invariant.0,
      l.invariant.1,
      outside_set at y (omega arith) (omega arith) l.invariant.2,
      below_more _ _ (λ k m. get_or-set_other l.singles at (16 * a.i + k) y 0 (λ e. omega arith) ∙ l.invariant.3 k m)
          (get_or-set_same l.singles at y 0 within ∙ ap (λ (d : ℕ). d * a.p) e),
      λ rest. low-more l.singles at y within low (l.invariant.4 rest),
    )

pub returns : goal.returns
returns c =
    let inv = c.loop-x.invariant in
    record { weight = λ x l. inv.3 x (omega arith); low = inv.4; singles = inv.2 }
