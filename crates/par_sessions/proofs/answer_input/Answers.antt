-- `par_sessions::answer_input` meets its contract.
-- A refused exercise prints its line, and the answer lines of an opened one fit the buffer: each is the whole output.
use mathlib.Core.Path.{◌≡◌, sym, ap, ap₂, ◌∙◌}
use mathlib.Core.List.{List}
use Prim.Native.Nat.{ℕ}
use native.Mathlib.Omega.{arith}
use lib.ListN.{length, take}
use lib.Seq.{length-take-le}
use Rattle.refusals.specs.Refusals.{refusal_number}
use Rattle.par_openings.proofs.OpenedWell.{OpenedWell, opened-well, opened-not}
use Rattle.par_outputs.specs.Output.{par_output, answers_from}
use Rattle.par_outputs.proofs.Whole.{output-refused, output-answers}
use Rattle.par_outputs.proofs.OutputLengths.{output-fits}
use Rattle.par_sessions.proofs.PrintedSoFar.{written_as, got-as}
use Rattle.par_sessions.proofs.answer_input.Goals as goal

-- the answer lines of an opened exercise are the output
whole :
    (x block table : List ℕ) (bytes from : ℕ) → OpenedWell x block table bytes from
    → answers_from (take bytes block) x from ≡ par_output x
whole x block table bytes from left =
    ap₂ (λ (b : List ℕ) (at : ℕ). answers_from b x at) left.part left.begins ∙ sym (output-answers x left.accepted)

pub slice_bounds-block-end : goal.slice_bounds-block-end
slice_bounds-block-end g c = (opened-well _ _ _ _ _ _ _ c.in-Ok.ensures).block_fits

pub slice_bounds-answer_queries-end : goal.slice_bounds-answer_queries-end
slice_bounds-answer_queries-end g c =
    sym (length-take-le _ _ (opened-well _ _ _ _ _ _ _ c.in-Ok.ensures).block_fits)

pub answer_queries-requires-clause-filled : goal.answer_queries-requires-clause-filled
answer_queries-requires-clause-filled g c =
    let x = c.args.input.now in
    let left = opened-well _ _ _ _ _ _ _ c.in-Ok.ensures in
    (left.valid, left.entries, omega (arith, ap length (whole x _ _ _ _ left), output-fits x, c.requires.room))

pub returns-in-Err-clause-written : goal.returns-in-Err-clause-written
returns-in-Err-clause-written g c =
    let x = c.args.input.now in
    let k = refusal_number c.in-Err.refusal in
    written_as c.answer_refusal.ensures.written
    (sym (output-refused x k (opened-not x _ _ _ _ k c.in-Err.ensures)))

pub returns-in-Err-clause-printed : goal.returns-in-Err-clause-printed
returns-in-Err-clause-printed g c =
    let x = c.args.input.now in
    let k = refusal_number c.in-Err.refusal in
    got-as _ _ _ c.answer_refusal.ensures.printed
    (sym (output-refused x k (opened-not x _ _ _ _ k c.in-Err.ensures)))

pub returns-in-Ok-clause-written : goal.returns-in-Ok-clause-written
returns-in-Ok-clause-written g c =
    written_as c.answer_queries.ensures.written (whole _ _ _ _ _ (opened-well _ _ _ _ _ _ _ c.in-Ok.ensures))

pub returns-in-Ok-clause-printed : goal.returns-in-Ok-clause-printed
returns-in-Ok-clause-printed g c =
    got-as _ _ _ c.answer_queries.ensures.printed (whole _ _ _ _ _ (opened-well _ _ _ _ _ _ _ c.in-Ok.ensures))
