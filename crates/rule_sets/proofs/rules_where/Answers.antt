-- `rule_sets::rules_where` meets its contract.
use Rattle.std.proofs.Common.{◌≡◌, ℕ, suc, ◌+◌, ◌*◌, ◌-◌, ◌^◌, ◌<◌, ◌≤◌, Bool, true, false, sym, add-zero, arith}
use mir.Val.{bool_byte}
use Rattle.basics.proofs.SetMaking.{From, from-none, from_in, from_out, from_all, more-fits}
use Rattle.rule_sets.proofs.rules_where.Goals as goal

-- the set with a bit more fits
bit-fits :
    (n r s : ℕ) (b : Bool) → 0 < r → r ≤ n → n ≤ 64 → s < 2 ^ (n - r)
    → (2 * s + bool_byte b < 2 ^ (n - (r - 1))) × (2 * s + bool_byte b < 18446744073709551616)
bit-fits n r s b some low few small =
    let fits = more-fits n r s some low few small in
    let bit : bool_byte b ≤ 1 =
    elim b as (λ (t : Bool). bool_byte t ≤ 1) [ true ↦ omega arith | false ↦ omega arith ] in
    (omega (arith, fits.0), omega (arith, fits.1))

-- the rules behind the one at hand, and that one where it passes
bit-more :
    (f : ℕ → Bool) (n r s : ℕ) (b : Bool) → 0 < r → r ≤ n → b ≡ f (r - 1) → From f n r s
    → From f n (r - 1) (2 * s + bool_byte b)
bit-more f n r s b some low e rest =
    let back : suc (r - 1) ≡ r = omega arith in
    let behind : From f n (suc (r - 1)) s = rw back rest in
    let step : (t : Bool) → t ≡ f (r - 1) → From f n (r - 1) (2 * s + bool_byte t) = λ t. elim t as
    (λ (t : Bool). t ≡ f (r - 1) → From f n (r - 1) (2 * s + bool_byte t)) [
      | true ↦ λ q. from_in f n (r - 1) s (omega arith) behind (sym q)
      | false ↦ λ q. rw (add-zero (2 * s)) (from_out f n (r - 1) s (omega arith) behind (sym q))
    ] in
    step b e

pub loop-r-init : goal.loop-r-init
loop-r-init g c =
    let n = c.args.rules in
    let e : n - n ≡ 0 = omega arith in
    (rw e (omega arith), λ f told. from-none f n)

pub overflow_mul-set : goal.overflow_mul-set
overflow_mul-set g c =
    let l = c.loop-r in
    omega (arith, (more-fits c.args.rules l.r l.set (omega arith) (omega arith) c.requires.few l.invariant.0).1)

pub overflow_add-set : goal.overflow_add-set
overflow_add-set g c =
    let l = c.loop-r in
    let fits = (bit-fits c.args.rules l.r l.set c.test.result (omega arith) (omega arith) c.requires.few
    l.invariant.0).1 in
    omega (arith, c.from.ensures, fits)

pub loop-r-preserved : goal.loop-r-preserved
loop-r-preserved g c =
    let n = c.args.rules in
    let l = c.loop-r in
    let b = c.test.result in
    let some : 0 < l.r = omega arith in
    let low : l.r ≤ n = omega arith in
    rw c.from.ensures (
      (bit-fits n l.r l.set b some low c.requires.few l.invariant.0).0,
      λ f told.
          bit-more f n l.r l.set b some low (told (l.r - 1) b (omega arith) c.test.ensures) (l.invariant.1 f told),
    )

pub returns : goal.returns
returns g c = λ f told. from_all f c.args.rules c.loop-r.r c.loop-r.set (omega arith) (c.loop-r.invariant.1 f told)
