-- `rule_sets::agreeing_with` meets its contract.
use mathlib.Core.Path.{◌≡◌, refl, sym, ap, ap₂, ◌∙◌}
use Prim.Native.Nat.{ℕ, ◌*◌, ◌/◌, ◌%◌, ◌^◌}
use native.Mathlib.Numerals.{add-one}
use native.Mathlib.Nat.{add_assoc, div-one, pow-suc, div-div-eq-div-mul}
use native.Mathlib.Omega.{arith}
use lib.Bits.{bit_and}
use lib.ListN.{get_or}
use Rattle.words.specs.Code.{sets_place}
use Rattle.words.specs.Packing.{digit}
use Rattle.rule_sets.specs.Agreeing.{set_at, agreeing}
use borrow.Author.Rules.{rules}
use Rattle.rule_sets.proofs.agreeing_with.Goals as goal

pub loop-i-init : goal.loop-i-init
unfolding agreeing
loop-i-init c = (search rules, c.requires, sym (div-one c.args.word), refl)

pub loop-i-preserved : goal.loop-i-preserved
unfolding agreeing digit
loop-i-preserved c =
    let a = c.args in
    let l = c.loop-i in
    let i = l.i in (
      omega arith,
      l.invariant.1,
      ap (λ (x : ℕ). x / 16) l.invariant.2 ∙ div-div-eq-div-mul a.word (16 ^ i) 16
          ∙ ap (λ (x : ℕ). a.word / x) (sym (pow-suc 16 i) ∙ ap (λ (k : ℕ). 16 ^ k) (sym (add-one i))),
      ap₂ bit_and l.invariant.3
          (ap (λ (k : ℕ). get_or a.code.now k 0) (add_assoc sets_place (16 * i) (l.rest % 16))
          ∙ ap (λ (x : ℕ). set_at a.code.now i (x % 16)) l.invariant.2)
          ∙ ap (agreeing a.code.now a.word) (sym (add-one i)),
    )

pub returns : goal.returns
returns c =
    let a = c.args in
    let e : c.loop-i.i ≡ a.n = omega arith in
    c.loop-i.invariant.3 ∙ ap (agreeing a.code.now a.word) e
