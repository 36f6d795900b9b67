-- `basics::power_within` meets its contract.
use mathlib.Core.Path.{◌≡◌, sym, ap}
use Prim.Native.Nat.{ℕ, suc, ◌≤◌, ◌*◌, ◌^◌}
use native.Mathlib.Nat.{pow-zero, pow-suc, mul-le-mul, pow-le-pow_right}
use native.Mathlib.Omega.{arith}
use borrow.Author.Rules.{rules}
use Rattle.basics.proofs.Digits.{power-more}
use Rattle.basics.proofs.power_within.Goals as goal

pub loop-i-init : goal.loop-i-init
loop-i-init c = (sym (pow-zero _), search rules)

pub overflow_mul-power : goal.overflow_mul-power
overflow_mul-power c =
    let p = c.loop-i.power in
    let k = c.args.k in
    let low : p ≤ 65536 = omega arith in
    let narrow : k ≤ 255 = omega arith in
    omega (arith, mul-le-mul low narrow)

pub returns-then-most-power : goal.returns-then-most-power
returns-then-most-power c =
    let a = c.args in
    let i = c.loop-i.i in
    let g : a.k ^ suc i ≤ a.k ^ a.n = pow-le-pow_right (omega arith) (omega arith) in
    let e = pow-suc a.k i in
    let q = ap (λ (x : ℕ). x * a.k) c.loop-i.invariant.0 in
    omega arith

pub loop-i-preserved : goal.loop-i-preserved
loop-i-preserved c =
    let l = c.loop-i in
    (power-more c.args.k l.i l.power l.invariant.0, search rules)

pub returns : goal.returns
returns c =
    let a = c.args in
    let e : c.loop-i.i ≡ a.n = omega arith in
    let q = ap (λ (x : ℕ). a.k ^ x) e in
    omega arith
