-- `basics::copy` meets its contract.
use Rattle.std.proofs.Common.{◌≡◌, refl, sym, ap, ◌∙◌, List, ℕ, ◌+◌, ◌<◌, length, take, arith}
use mathlib.Core.List.{[], ◌∷◌}
use native.Mathlib.Nat.{zero-add}
use native.Mathlib.Numerals.{add-one}
use lib.ListN.{get_or, set}
use lib.Seq.{sets, length-sets, take-suc, length-take-le}
use Rattle.basics.proofs.Lists.{sets-append, sets-front}
use Rattle.basics.proofs.copy.Goals as goal

-- one byte more
copy_more :
    (i : ℕ) (s d : List ℕ) → i < length s
    → set (sets d 0 (take i s)) i (get_or s i 0) ≡ sets d 0 (take (i + 1) s)
copy_more i s d l =
    ap (λ (k : ℕ). set (sets d 0 (take i s)) k (get_or s i 0))
    (sym (length-take-le i s (omega arith)) ∙ sym (zero-add (length (take i s))))
    ∙ sets-append d 0 (take i s) (get_or s i 0 ∷ [])
    ∙ ap (sets d 0) (sym (take-suc s i 0 l) ∙ ap (λ (k : ℕ). take k s) (sym (add-one i)))

pub loop-i-init : goal.loop-i-init
loop-i-init c = refl

pub bounds-to-i : goal.bounds-to-i
bounds-to-i c =
    omega (
      arith,
      ap length c.loop-i.invariant ∙ length-sets c.args.to.now 0 (take c.loop-i.i c.args.from.now),
    )

pub loop-i-preserved : goal.loop-i-preserved
loop-i-preserved c =
    let a = c.args in
    let i = c.loop-i.i in
    ap (λ (l : List ℕ). set l i (get_or a.from.now i 0)) c.loop-i.invariant
    ∙ copy_more i a.from.now a.to.now (omega arith)

pub returns : goal.returns
returns c =
    let a = c.args in
    let e : c.loop-i.i ≡ a.n = omega arith in
    c.loop-i.invariant ∙ ap (λ (k : ℕ). sets a.to.now 0 (take k a.from.now)) e
    ∙ sets-front a.to.now (take a.n a.from.now)
    (omega (arith, length-take-le a.n a.from.now (omega arith)))
