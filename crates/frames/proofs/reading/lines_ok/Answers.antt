-- `frames::reading::lines_ok` meets its contract.
use mathlib.Core.Path.{◌≡◌, sym, ap, ap₂, ◌∙◌}
use mathlib.Core.Bool.{Bool, ◌&&◌}
use mathlib.Core.List.{List}
use Prim.Native.Nat.{ℕ, ◌+◌, ◌<◌}
use native.Mathlib.Omega.{arith}
use lib.ListN.{length, drop}
use borrow.Author.Tests.{not-true, not-false}
use Rattle.frames.specs.Lines.{lines_of}
use Rattle.frames.specs.Places.{line_from, line_at}
use Rattle.frames.specs.Reading.{lines_ok}
use Rattle.frames.specs.declared.lines.Line.{Line}
use Rattle.frames.specs.declared.reader.Reader.{Reader}
use Rattle.frames.proofs.ReadingLaws.{ok_from, ok_end}
use Rattle.frames.proofs.reading.lines_ok.Goals as goal

-- the lines from here on are right exactly where this one and those behind it are
turn :
    (x y : List ℕ) (at : ℕ) (line : Line) → y ≡ x → at < length y → line ≡ line_at y at
    → (right : Bool) → line.ok ≡ right
    → lines_ok (lines_of (drop at x)) ≡ (right && lines_ok (lines_of (drop line.next x)))
turn x y at line same l is right e =
    let here = is ∙ ap (λ (z : List ℕ). line_at z at) same in
    let onward : line.next ≡ at + length (line_from x at) = ap (λ (l : Line). l.next) here in
    let told = ap (λ (l : Line). l.ok) here in
    ok_from x at (omega (arith, ap length same))
    ∙ ap₂ (λ (t : Bool) (k : ℕ). t && lines_ok (lines_of (drop k x))) (sym told ∙ e) (sym onward)

pub loop-line-init : goal.loop-line-init
loop-line-init c =
    let e = c.into_iter-line-iterator.ensures.into_iter_gives in
    let x = c.args.text.now in
    (ap (λ (r : Reader). r.text.now) e, ap (λ (r : Reader). lines_ok (lines_of (drop r.at x))) e)

pub returns-then-not-line : goal.returns-then-not-line
returns-then-not-line c =
    let s = c.in-Some.ensures.steps in
    let l = c.loop-line in
    let wrong = not-true _ c.if-not-line.true in
    sym (sym l.invariant.1 ∙ turn _ _ _ _ l.invariant.0 s.0 s.1 _ wrong)

pub loop-line-preserved : goal.loop-line-preserved
loop-line-preserved c =
    let s = c.in-Some.ensures.steps in
    let l = c.loop-line in
    let x = c.args.text.now in
    let good = not-false _ c.if-not-line.false in (
      ap (λ (t : _). t.now) s.2 ∙ l.invariant.0,
      ap (λ (k : ℕ). lines_ok (lines_of (drop k x))) s.3
          ∙ sym (turn _ _ _ _ l.invariant.0 s.0 s.1 _ good)
          ∙ l.invariant.1,
    )

pub returns : goal.returns
returns c =
    let l = c.loop-line in
    let x = c.args.text.now in
    let ended = ok_end x l.line-iterator.at (omega (arith, c.in-None.ensures.steps, ap length l.invariant.0)) in
    sym (sym l.invariant.1 ∙ ended)
