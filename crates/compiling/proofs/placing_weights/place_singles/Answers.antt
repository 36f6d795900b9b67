-- `compiling::placing_weights::place_singles` meets its contract.
use mathlib.Core.Path.{◌≡◌, sym, ap, ◌∙◌}
use mathlib.Core.List.{List}
use Prim.Native.Nat.{ℕ, suc, ◌<◌, ◌≤◌, ◌-◌, ◌*◌}
use native.Mathlib.Nat.{mul_comm}
use native.Mathlib.Omega.{arith}
use Rattle.blocks.specs.Layout.{positions, abstract_count}
use Rattle.blocks.specs.Validity.{Headed}
use Rattle.blocks.proofs.StateLaws.{some-abstract}
use Rattle.psvn.proofs.RankLaws.{states-span}
use Rattle.words.specs.Ranking.{place_value}
use Rattle.words.proofs.WordRanks.{place-more, place-last, place-below}
use Rattle.compiling.proofs.WeightsPlaced.{rows_more}
use borrow.Author.Rules.{rules}
use Rattle.compiling.proofs.placing_weights.place_singles.Goals as goal

-- the place value behind position i - 1, and with its base that at i - 1
behind :
    (b : List ℕ) (i p : ℕ) → 0 < i → p ≡ place_value (abstract_count b) i (positions b - i)
    → p ≡ place_value (abstract_count b) (suc (i - 1)) (positions b - suc (i - 1))
behind b i p some e =
    let back : i ≡ suc (i - 1) = omega arith in
    e ∙ ap (λ (i : ℕ). place_value (abstract_count b) i (positions b - i)) back

counted :
    (b : List ℕ) (i p : ℕ) → 0 < i → i ≤ positions b → p ≡ place_value (abstract_count b) i (positions b - i)
    → abstract_count b (i - 1) * p ≡ place_value (abstract_count b) (i - 1) (positions b - (i - 1))
counted b i p some low e =
    ap (λ (p : ℕ). abstract_count b (i - 1) * p) (behind b i p some e)
    ∙ sym (place-more (abstract_count b) (positions b) (i - 1) (omega arith))

-- no place value is above 16384
few :
    (b : List ℕ) (i : ℕ) → Headed b → i ≤ positions b → place_value (abstract_count b) i (positions b - i) ≤ 16384
few b i h l =
    let below = place-below (abstract_count b) (some-abstract b h) (positions b) i l in
    omega (arith, states-span b, h.few)

pub loop-i-init : goal.loop-i-init
loop-i-init c =
    let b = c.args.block.now in
    let p : ℕ → ℕ = λ i. place_value (abstract_count b) i (positions b - i) in (
      search rules,
      sym (ap p c.positions-i.ensures.0 ∙ place-last (abstract_count b) (positions b)),
      λ j x a l. absurd (omega arith),
      λ k l. c.requires.1 k,
      λ k. omega (arith, c.requires.1 k),
    )

pub place_row-requires : goal.place_row-requires
place_row-requires c =
    let b = c.args.block.now in
    let l = c.loop-i in
    let at = counted b l.i l.p (omega arith) l.invariant.0 l.invariant.1 in
    (c.requires.0, omega arith, omega (arith, at, few b (l.i - 1) c.requires.0.sized.headed (omega arith)))

pub abstract_count-p-requires : goal.abstract_count-p-requires
abstract_count-p-requires c = (c.requires.0.sized.headed, omega arith)

-- the next place value
next :
    (b : List ℕ) (i p base : ℕ) → 0 < i → i ≤ positions b → p ≡ place_value (abstract_count b) i (positions b - i)
    → base ≡ abstract_count b (i - 1) → p * base ≡ place_value (abstract_count b) (i - 1) (positions b - (i - 1))
next b i p base some low e f =
    mul_comm p base ∙ ap (λ (k : ℕ). k * p) f ∙ counted b i p some low e

pub overflow_mul-p : goal.overflow_mul-p
overflow_mul-p c =
    let b = c.args.block.now in
    let l = c.loop-i in
    let at = next b l.i l.p _ (omega arith) l.invariant.0 l.invariant.1 c.abstract_count-p.ensures.0 in
    omega (arith, at, few b (l.i - 1) c.requires.0.sized.headed (omega arith))

pub loop-i-preserved : goal.loop-i-preserved
loop-i-preserved c =
    let b = c.args.block.now in
    let l = c.loop-i in
    let i = l.i - 1 in
    let row = c.place_row.ensures in (
      omega arith,
      next b l.i l.p _ (omega arith) l.invariant.0 l.invariant.1 c.abstract_count-p.ensures.0,
      rows_more i (behind b l.i l.p (omega arith) l.invariant.1) row (λ j x a. l.invariant.2 j x (omega arith)),
      λ k m. row.singles.behind k (omega arith) ∙ l.invariant.3 k m,
      row.low l.invariant.4,
    )

pub returns : goal.returns
returns c =
    let e : c.loop-i.i ≡ 0 = omega arith in
    let inv = c.loop-i.invariant in
    record { weight = λ i x. inv.2 i x (omega arith); behind = inv.3; low = inv.4 }
