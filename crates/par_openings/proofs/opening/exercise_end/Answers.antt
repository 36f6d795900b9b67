-- `par_openings::opening::exercise_end` meets its contract.
-- Behind the head line if the head fails, else behind the frames that it demands.
use mathlib.Core.Path.{◌≡◌, sym, ap, ap₂, ◌∙◌}
use mathlib.Core.Bool.{true}
use mathlib.Core.List.{List}
use Prim.Native.Nat.{ℕ, ◌+◌}
use lib.ListN.{length, drop}
use borrow.Author.Tests.{not-true, not-false}
use Rattle.std.proofs.Common.{Ok}
use Rattle.refusals.specs.Answers.{told, verdict}
use Rattle.refusals.specs.Refusals.{answer_of}
use Rattle.blocks.specs.Layout.{frame_count}
use Rattle.blocks.specs.Validity.{head_ok, Headed}
use Rattle.blocks.proofs.Accepted.{headed}
use Rattle.frames.specs.Lines.{lines_of, line_ok}
use Rattle.frames.specs.Places.{first_line, line_from}
use Rattle.frames.specs.Reading.{head_of, head_conditions, HeadRead}
use Rattle.frames.specs.declared.reading.Heading.{Heading}
use Rattle.frames.proofs.LinePlaces.{length_to}
use Rattle.frames.proofs.ReadingLaws.{head-accepted, answered-told, answered-refused}
use Rattle.par_openings.specs.Openings.{exercise_end}
use Rattle.par_openings.proofs.OpeningLaws.{head-unread, head-refused, head-reads, end-failed, end_read}
use Rattle.par_openings.proofs.opening.exercise_end.Goals as goal

module _ (x : List ℕ) (heading : Heading) (read : HeadRead (lines_of x) heading) where
  -- where the first line ends
  first : heading.next ≡ length (line_from x 0)
  unfolding line_from
  first = read.onward

  -- the head is there
  module _ (head : List ℕ) (is : heading.head ≡ Ok head) where
    judged : (verdict (head_conditions (lines_of x)) ≡ told tt) × (head ≡ head_of (lines_of x))
    judged = answered-told _ _ _ (sym (ap answer_of is) ∙ read.judged)

    decoded : Headed head
    decoded = headed _ (ap head_ok judged.1 ∙ (head-accepted (lines_of x) judged.0).1)

    all_lines :
        (count : ℕ) → line_ok (first_line (lines_of x)) ≡ true → count ≡ frame_count head
        → heading.next + length_to count (drop heading.next x) ≡ exercise_end x
    all_lines count right e =
        ap₂ (λ (k n : ℕ). k + length_to n (drop k x)) first (e ∙ ap frame_count judged.1)
        ∙ sym (end_read x (head-reads (lines_of x) right judged.0))

pub returns-then-not-heading : goal.returns-then-not-heading
returns-then-not-heading c =
    let x = c.args.input.now in
    let wrong = sym c.requires.right ∙ not-true _ c.if-not-heading.true in
    first x _ c.requires ∙ sym (end-failed x (head-unread (lines_of x) wrong))

pub frame_count-requires : goal.frame_count-requires
frame_count-requires c = decoded c.args.input.now c.args.heading c.requires _ c.in-Ok.is

pub returns-in-Ok : goal.returns-in-Ok
returns-in-Ok c =
    let right = sym c.requires.right ∙ not-false _ c.if-not-heading.false in
    c.lines_end.ensures
    ∙ all_lines c.args.input.now c.args.heading c.requires _ c.in-Ok.is _ right c.frame_count.ensures.0

pub returns-in-Err : goal.returns-in-Err
returns-in-Err c =
    let x = c.args.input.now in
    let right = sym c.requires.right ∙ not-false _ c.if-not-heading.false in
    let against = answered-refused _ _ _ (sym (ap answer_of c.in-Err.is) ∙ c.requires.judged) in
    first x _ c.requires ∙ sym (end-failed x (head-refused (lines_of x) right _ against))
