-- `frames::reading::lines_fit` meets its contract.
use mathlib.Core.Path.{◌≡◌, refl, sym, ap₂, ◌∙◌}
use mathlib.Core.Logic.{⊎_elim}
use mathlib.Core.Bool.{Bool, false, ◌&&◌}
use mathlib.Core.List.{List}
use Prim.Native.Nat.{ℕ, suc, ◌+◌, ◌-◌, ◌/◌, ◌<◌}
use native.Mathlib.Omega.{arith}
use native.Mathlib.Numerals.{add-one}
use lib.Dec.{ltb, leb, eqb}
use lib.ListN.{length, drop}
use borrow.Author.Tests.{lt-ltb, le-ltb, lt-leb, le-leb, eq-eqb, ne_eqb}
use Rattle.basics.proofs.Comparing.{below?}
use Rattle.basics.proofs.Truth.{and-right-false}
use Rattle.blocks.specs.Layout.{frame_count, frame_length}
use Rattle.frames.specs.Lines.{lines_of, line_bytes}
use Rattle.frames.specs.Places.{line_from}
use Rattle.frames.specs.Reading.{lines_fit}
use Rattle.frames.proofs.PairLaws.{half_length}
use Rattle.frames.proofs.ReadingLaws.{behind, fit-from, fit-end}
use Rattle.frames.proofs.reading.lines_fit.Goals as goal

-- how many bytes the line at a place has
abbrev many : List ℕ → ℕ → ℕ
many x at = length (line_bytes (line_from x at))

counted : (x : List ℕ) (at next : ℕ) → next ≡ at + length (line_from x at) → (next - at) / 2 ≡ many x at
counted x at next e = omega (arith, half_length (line_from x at))

-- the lines from a place on, by the tests of the one there
module _ (head : List ℕ) (i : ℕ) (x : List ℕ) (at : ℕ) where
  abbrev tested : Bool → Bool → Bool
  tested few fits = few && (fits && lines_fit head (suc i) (behind x at))

  turn :
      at < length x → (few fits : Bool) → ltb i (frame_count head) ≡ few → eqb (many x at) (frame_length head i) ≡ fits
      → lines_fit head i (lines_of (drop at x)) ≡ tested few fits
  turn l few fits p q = fit-from x at l head i ∙ ap₂ tested p q

  -- no frame is left
  settled : i ≡ frame_count head → leb (length x) at ≡ lines_fit head i (lines_of (drop at x))
  settled e =
      ⊎_elim
      (λ l. lt-leb (length x) at l ∙ sym (turn l false _ (le-ltb i (frame_count head) (omega arith)) refl))
      (λ l. le-leb (length x) at l ∙ sym (fit-end x at l head i ∙ eq-eqb i (frame_count head) e)) (below? at (length x))

pub returns-then-next-at : goal.returns-then-next-at
returns-then-next-at c =
    let head = c.args.head.now in
    let x = c.args.text.now in
    let loop = c.loop-i in
    let count = counted x loop.at _ c.line_end-next.ensures in
    let wrong =
    ne_eqb (many x loop.at) (frame_length head loop.i)
    (λ e. c.if-next-at.true (count ∙ e ∙ sym c.frame_length.ensures)) in
    sym
    (sym loop.invariant
    ∙ turn head loop.i x loop.at c.if-text-at.false _ _ refl wrong
    ∙ and-right-false (ltb loop.i (frame_count head)) _ refl)

pub loop-i-preserved : goal.loop-i-preserved
loop-i-preserved c =
    let head = c.args.head.now in
    let x = c.args.text.now in
    let loop = c.loop-i in
    let onward = c.line_end-next.ensures in
    let few = lt-ltb loop.i (frame_count head) (omega arith) in
    let fits =
    eq-eqb (many x loop.at) (frame_length head loop.i)
    (sym (counted x loop.at _ onward) ∙ c.if-next-at.false ∙ c.frame_length.ensures) in
    ap₂ (λ (j k : ℕ). lines_fit head j (lines_of (drop k x))) (add-one loop.i) onward
    ∙ sym (turn head loop.i x loop.at c.if-text-at.false _ _ few fits)
    ∙ loop.invariant

pub returns-then-text-at : goal.returns-then-text-at
returns-then-text-at c =
    let loop = c.loop-i in
    let ended = fit-end c.args.text.now loop.at c.if-text-at.true c.args.head.now loop.i in
    let missing = ne_eqb loop.i (frame_count c.args.head.now) (λ e. absurd (omega arith)) in
    sym (sym loop.invariant ∙ ended ∙ missing)

pub returns : goal.returns
returns c =
    let loop = c.loop-i in
    settled c.args.head.now loop.i c.args.text.now loop.at (omega arith) ∙ loop.invariant
