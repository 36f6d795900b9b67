-- `words::ranking::word_of` meets its contract.
use Rattle.std.proofs.Common.{◌≡◌, ℕ, suc, ◌+◌, ◌-◌, ◌*◌, ◌/◌, ◌%◌, ◌^◌, ◌<◌, ◌≤◌, sym, ap, ◌∙◌, mod-lt, zero-lt-suc}
use Rattle.std.proofs.Common.{pow-suc, zero-add, zero-mul, mul-one, arith, rules}
use native.Mathlib.Nat.{one-le-pow}
use lib.Arith.{digits_lt}
use Rattle.basics.specs.Digits.{digits}
use Rattle.blocks.specs.Layout.{positions, abstract_count}
use Rattle.psvn.specs.Ranks.{unrank}
use Rattle.words.specs.Packing.{pack}
use Rattle.words.specs.Ranking.{word_of}
use Rattle.words.proofs.WordDigits.{power-fits}
use Rattle.words.proofs.WordRanks.{word_more}
use Rattle.words.proofs.ranking.word_of.Goals as goal
use Rattle.words.proofs.ranking.word_of.Goals.{After-abstract_count-base}

pub loop-i-init : goal.loop-i-init
unfolding word_of unrank
loop-i-init c =
    let b = c.args.block.now in
    let k = c.args.k in
    let e = c.positions-i.ensures.0 in (
      search rules,
      one-le-pow (positions b - c.positions-i.result) 16 (zero-lt-suc 15),
      ap (λ (i : ℕ). pack (digits (abstract_count b) i k)) (sym e)
          ∙ sym (ap (λ (x : ℕ). x + pack (digits (abstract_count b) c.positions-i.result k))
          (zero-mul (16 ^ c.positions-i.result))
          ∙ zero-add _),
    )

pub abstract_count-base-requires : goal.abstract_count-base-requires
abstract_count-base-requires c = (c.requires.0, omega arith)

-- one digit more, and it fits
below :
    (c : After-abstract_count-base)
    → c.loop-i.word * 16 + c.loop-i.rest % c.abstract_count-base.result
    < 16 ^ (positions c.args.block.now - (c.loop-i.i - 1))
below c =
    let n = positions c.args.block.now in
    let l = c.loop-i in
    let r = c.abstract_count-base.result in
    let d = mod-lt l.rest {m = r} c.abstract_count-base.ensures.1 in
    let e : n - (l.i - 1) ≡ suc (n - l.i) = omega arith in
    rw (e, pow-suc 16 (n - l.i)) (digits_lt l.invariant.1 (omega arith))

fits :
    (c : After-abstract_count-base)
    → 16 ^ (positions c.args.block.now - (c.loop-i.i - 1)) ≤ 2 ^ 64
fits c =
    power-fits (positions c.args.block.now - (c.loop-i.i - 1))
    (omega arith)

pub overflow_mul-word : goal.overflow_mul-word
overflow_mul-word c = omega (arith, below c, fits c)

pub overflow_add-word : goal.overflow_add-word
overflow_add-word c = omega (arith, below c, fits c)

pub loop-i-preserved : goal.loop-i-preserved
loop-i-preserved c =
    let b = c.args.block.now in
    let l = c.loop-i in
    let i = l.i - 1 in
    let back : suc i ≡ l.i = omega arith in
    let more = word_more (abstract_count b) i l.word l.rest in (
      omega arith,
      below c,
      l.invariant.2 ∙ ap (λ (k : ℕ). l.word * 16 ^ k + pack (digits (abstract_count b) k l.rest)) (sym back) ∙ more
          ∙ ap (λ (d : ℕ). (l.word * 16 + l.rest % d) * 16 ^ i + pack (digits (abstract_count b) i (l.rest / d)))
          (sym c.abstract_count-base.ensures.0),
    )

pub returns : goal.returns
returns c =
    let a = c.args in
    let l = c.loop-i in
    let e : l.i ≡ 0 = omega arith in
    sym (l.invariant.2 ∙ ap (λ (k : ℕ). l.word * 16 ^ k + pack (digits (abstract_count a.block.now) k l.rest)) e
    ∙ omega (arith, mul-one l.word))
