-- `par_sessions::answer_lines` meets its contract.
-- Each turn answers the query line at its place, and goes on behind it.
use mathlib.Core.Path.{◌≡◌, refl, sym, ap, ◌∙◌}
use mathlib.Core.List.{List, [], ◌++◌}
use Prim.Native.Nat.{ℕ, ◌+◌, ◌<◌}
use native.Mathlib.Omega.{arith}
use lib.ListN.{length}
use Rattle.std.proofs.KnownBytes.{Appends-nil}
use Rattle.frames.specs.Places.{line_from}
use Rattle.frames.proofs.LineLaws.{line-some}
use Rattle.par_queries.specs.QueryLines.{answer_line}
use Rattle.par_outputs.specs.Output.{answers_from}
use Rattle.par_outputs.proofs.Whole.{answers_next, answers-end}
use Rattle.par_sessions.proofs.PrintedSoFar.{all-printed, prints-more, got-all}
use Rattle.par_sessions.proofs.answer_lines.Goals as goal

pub loop-at-init : goal.loop-at-init
loop-at-init g c =
    record {
      standing = record { printed = []; parts = refl; written = record { told = refl; front = refl } };
      got = Appends-nil _;
    }

pub loop-at-smaller : goal.loop-at-smaller
loop-at-smaller g c =
    omega (arith, c.answer_line-answered.ensures.onward, line-some c.args.input.now c.loop-at.at c.loop-at-test.true)

-- the line that answers the query line at a place, and those behind it
lines :
    (b x : List ℕ) (at next : ℕ) → at < length x → next ≡ at + length (line_from x at)
    → answers_from b x at ≡ answer_line b (line_from x at) ++ answers_from b x next
lines b x at next l e =
    answers_next b x at l ∙ ap (λ (k : ℕ). answer_line b (line_from x at) ++ answers_from b x k) (sym e)

pub loop-at-preserved : goal.loop-at-preserved
loop-at-preserved g c =
    let l = c.loop-at in
    let answered = c.answer_line-answered in
    let part = c.print_part-line in
    prints-more l.outcome part.result.outcome c.and-outcome.result l.invariant
    (lines c.args.block.now c.args.input.now l.at answered.result.next c.loop-at-test.true answered.ensures.onward)
    refl answered.ensures.written part.ensures.behind part.ensures.printed c.and-outcome.ensures

pub returns-clause-written : goal.returns-clause-written
returns-clause-written g c =
    let l = c.loop-at in
    all-printed l.invariant.standing (answers-end c.args.block.now c.args.input.now l.at c.loop-at-test.false)

pub returns-clause-printed : goal.returns-clause-printed
returns-clause-printed g c =
    let l = c.loop-at in
    got-all l.outcome l.invariant (answers-end c.args.block.now c.args.input.now l.at c.loop-at-test.false)
