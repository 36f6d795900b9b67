-- `par_openings::opening::lines_end` meets its contract.
use mathlib.Core.Path.{◌≡◌, sym, ap, ◌∙◌}
use mathlib.Core.List.{flatten}
use Prim.Native.Nat.{ℕ, suc, ◌+◌, ◌-◌}
use native.Mathlib.Omega.{arith}
use lib.ListN.{drop}
use Rattle.frames.proofs.LinePlaces.{length_to, end_step}
use Rattle.par_openings.proofs.opening.lines_end.Goals as goal

pub loop-init : goal.loop-init
loop-init c =
    let a = c.args in
    let e : a.count - 0 ≡ a.count = omega arith in
    ap (λ (k : ℕ). a.«from» + length_to k (drop a.«from» a.input.now)) e

pub loop-preserved : goal.loop-preserved
loop-preserved c =
    let x = c.args.input.now in
    let loop = c.loop in
    let left = c.args.count - (loop.counter + 1) in
    let e : c.args.count - loop.counter ≡ suc left = omega arith in
    ap (λ (k : ℕ). k + length_to left (drop k x)) c.line_end-at.ensures
    ∙ sym (end_step x loop.at left)
    ∙ ap (λ (k : ℕ). loop.at + length_to k (drop loop.at x)) (sym e)
    ∙ loop.invariant

pub returns : goal.returns
unfolding flatten
returns c =
    let a = c.args in
    let loop = c.loop in
    let e : a.count - loop.counter ≡ 0 = omega arith in
    omega (arith, ap (λ (k : ℕ). length_to k (drop loop.at a.input.now)) e)
