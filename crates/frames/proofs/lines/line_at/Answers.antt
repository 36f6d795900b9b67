-- `frames::lines::line_at` meets its contract.
-- Behind the end there is no line; else it is the part up to its end.
use mathlib.Core.Path.{◌≡◌, sym, ap, ◌∙◌}
use mathlib.Core.Bool.{Bool}
use mathlib.Core.List.{List}
use Prim.Native.Nat.{ℕ, ◌+◌, ◌-◌}
use native.Mathlib.Omega.{arith}
use lib.ListN.{length, take, drop}
use Rattle.frames.specs.Lines.{line_ok, line_bytes}
use Rattle.frames.specs.Places.{line_from, line_at}
use Rattle.frames.specs.declared.lines.Line.{Line}
use Rattle.frames.proofs.PairLaws.{half_length}
use Rattle.frames.proofs.LineLaws.{line-none, line-part, line-inside}
use Rattle.frames.proofs.lines.line_at.Goals as goal

-- what is told of a line, part by part
told :
    (x : List ℕ) (at : ℕ) (a : Bool) (n m : ℕ) → a ≡ line_ok (line_from x at) → n ≡ length (line_bytes (line_from x at))
    → m ≡ at + length (line_from x at) → ◌≡◌ {A = Line} (record { ok = a; bytes = n; next = m }) (line_at x at)
told x at a n m p q o = λ i. record { ok = p i; bytes = q i; next = o i }

pub returns-then-text-at : goal.returns-then-text-at
returns-then-text-at c =
    let x = c.args.text.now in
    let at = c.args.at in
    let none = line-none x at c.if-text-at.true in
    told x at _ 0 at (ap line_ok (sym none)) (ap (λ (l : List ℕ). length (line_bytes l)) (sym none))
    (omega (arith, ap length none))

pub slice_bounds-line_ok-end : goal.slice_bounds-line_ok-end
slice_bounds-line_ok-end c =
    omega (arith, line-inside c.args.text.now c.args.at (omega arith))

pub returns : goal.returns
returns c =
    let x = c.args.text.now in
    let at = c.args.at in
    let next = c.line_end-next.result in
    let e : next - at ≡ length (line_from x at) = omega arith in
    told x at c.line_ok-ok.result _ next
    (c.line_ok-ok.ensures ∙ ap line_ok (ap (λ (k : ℕ). take k (drop at x)) e ∙ line-part x at))
    (omega (arith, half_length (line_from x at)))
    c.line_end-next.ensures
