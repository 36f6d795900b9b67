-- `frames::reading::check_lines` meets its contract.
-- Each answer is the verdict under the tests that led there.
use mathlib.Core.Path.{◌≡◌, refl, sym, ap, ap₂, ◌∙◌}
use mathlib.Core.Bool.{Bool, true, false}
use mathlib.Core.List.{List, [], ◌∷◌, tail}
use Prim.Native.Nat.{ℕ}
use native.Mathlib.Omega.{arith}
use lib.Dec.{leb}
use lib.ListN.{drop}
use borrow.Author.Tests.{le-leb, lt-leb}
use Rattle.refusals.specs.Answers.{told, verdict, ◌unless◌}
use Rattle.refusals.specs.Refusals.{answer_of}
use Rattle.blocks.specs.Layout.{block_length}
use Rattle.blocks.specs.Validity.{head_ok, Headed}
use Rattle.blocks.proofs.Accepted.{headed}
use Rattle.frames.specs.Lines.{lines_of}
use Rattle.frames.specs.Places.{line_from}
use Rattle.frames.specs.Reading.{head_of, lines_ok, lines_fit, head_conditions, frame_conditions, HeadRead}
use Rattle.frames.specs.declared.reading.Heading.{Heading}
use Rattle.frames.proofs.ReadingLaws.{lines-tail, head-accepted, lines-refused, head-refused, frames-decided}
use Rattle.frames.proofs.ReadingLaws.{answered-told, answered-refused}
use Rattle.std.proofs.Common.{Ok}
use Rattle.std.proofs.lemmas.Result.{err_from_is_err_and}
use Rattle.frames.proofs.reading.check_lines.Goals as goal

-- the head is accepted
module _
    (x : List ℕ) (heading : Heading) (read : HeadRead (lines_of x) heading)
    (head : List ℕ) (is : heading.head ≡ Ok head)
  where
    judged : (verdict (head_conditions (lines_of x)) ≡ told tt) × (head ≡ head_of (lines_of x))
    judged = answered-told _ _ _ (sym (ap answer_of is) ∙ read.judged)

    accepted : verdict (head_conditions (lines_of x)) ≡ told tt
    accepted = judged.0

    same : head ≡ head_of (lines_of x)
    same = judged.1

    decoded : Headed head
    decoded = headed _ (ap head_ok same ∙ (head-accepted (lines_of x) accepted).1)

    -- the lines tested are those behind the head line
    tested :
        lines_fit head 0 (lines_of (drop heading.next x))
        ≡ lines_fit (head_of (lines_of x)) 0 (tail (lines_of x))
    unfolding line_from
    tested =
        ap₂ (λ (h : List ℕ) (k : ℕ). lines_fit h 0 (lines_of (drop k x))) same read.onward
        ∙ ap (lines_fit (head_of (lines_of x)) 0) (sym (lines-tail x))

    -- the lines are right, and the others and the room decide
    module _ (right : lines_ok (lines_of x) ≡ true) (room : ℕ) where
      decided :
          (fit long : Bool) → lines_fit head 0 (lines_of (drop heading.next x)) ≡ fit
          → leb (block_length (head_of (lines_of x))) room ≡ long
          → verdict (frame_conditions (lines_of x) room) ≡ verdict (2 unless fit ∷ 11 unless long ∷ [])
      decided fit long e p = frames-decided (lines_of x) room right fit long accepted (sym tested ∙ e) p

pub returns-then-not-lines_ok : goal.returns-then-not-lines_ok
returns-then-not-lines_ok c =
    sym (lines-refused (lines_of c.args.text.now) c.args.room (sym c.lines_ok.ensures ∙ c.if-not-lines_ok.true))

pub returns-in_err-head : goal.returns-in_err-head
returns-in_err-head c =
    let right = sym c.lines_ok.ensures ∙ c.if-not-lines_ok.false in
    let against = answered-refused _ _ _ (sym (ap answer_of c.in_err-head.was) ∙ c.requires.judged) in
    let p = err_from_is_err_and c.from_residual.result c.from_residual.ensures.1 in
    rw (p.1, p.2) (sym (head-refused (lines_of c.args.text.now) c.args.room right _ against))

pub lines_fit-requires : goal.lines_fit-requires
lines_fit-requires c = decoded c.args.text.now c.args.heading c.requires _ c.in_ok-head.was

pub returns-then-not-lines_fit : goal.returns-then-not-lines_fit
returns-then-not-lines_fit c =
    let right = sym c.lines_ok.ensures ∙ c.if-not-lines_ok.false in
    let wrong = sym c.lines_fit.ensures ∙ c.if-not-lines_fit.true in
    sym (decided c.args.text.now c.args.heading c.requires _ c.in_ok-head.was right c.args.room false _ wrong refl)

pub block_length-requires : goal.block_length-requires
block_length-requires c = decoded c.args.text.now c.args.heading c.requires _ c.in_ok-head.was

pub returns-then-room-block_length : goal.returns-then-room-block_length
returns-then-room-block_length c =
    let x = c.args.text.now in
    let h = c.args.heading in
    let is = c.in_ok-head.was in
    let right = sym c.lines_ok.ensures ∙ c.if-not-lines_ok.false in
    let fit = sym c.lines_fit.ensures ∙ c.if-not-lines_fit.false in
    let measured = c.block_length.ensures.0 ∙ ap block_length (same x h c.requires _ is) in
    let long = lt-leb (block_length (head_of (lines_of x))) c.args.room (omega (arith, measured)) in
    sym (decided x h c.requires _ is right c.args.room true false fit long)

pub returns : goal.returns
returns c =
    let x = c.args.text.now in
    let h = c.args.heading in
    let is = c.in_ok-head.was in
    let right = sym c.lines_ok.ensures ∙ c.if-not-lines_ok.false in
    let fit = sym c.lines_fit.ensures ∙ c.if-not-lines_fit.false in
    let measured = c.block_length.ensures.0 ∙ ap block_length (same x h c.requires _ is) in
    let long = le-leb (block_length (head_of (lines_of x))) c.args.room (omega (arith, measured)) in
    sym (decided x h c.requires _ is right c.args.room true true fit long)
