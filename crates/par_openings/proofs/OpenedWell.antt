-- What opening leaves its caller: a valid block and its filled table at the fronts of the buffers, and the place of the
-- query lines (`opened-well`); or it tells the number of the verdict (`opened-not`). An accepted exercise is valid
-- (`open-valid`). Whoever answers query lines after opening goes by these.
use mathlib.Core.Path.{◌≡◌, refl, sym, ap, ◌∙◌, subst}
use mathlib.Core.List.{List}
use Prim.Native.Nat.{ℕ, ◌≤◌}
use native.Mathlib.Omega.{arith}
use lib.Dec.{leb}
use lib.ListN.{length, get_or, take, drop, get_or-append}
use Rattle.basics.specs.Lists.{at_front}
use Rattle.basics.proofs.Lists.{front-taken, front_fits}
use Rattle.refusals.specs.Answers.{Answer, refused, told, verdict}
use Rattle.refusals.proofs.Verdicts.{told-refused, verdict-told}
use Rattle.blocks.specs.Validity.{Valid}
use Rattle.filling.specs.FilledTables.{filled}
use Rattle.frames.specs.Lines.{lines_of}
use Rattle.frames.specs.Reading.{read_conditions}
use Rattle.frames.proofs.AcceptedText.{read-valid}
use Rattle.par_openings.specs.Openings.{longest_input, block_room, exercise_lines, exercise_end, exercise_block}
use Rattle.par_openings.specs.Openings.{open_conditions, opened, OpenOutcome, open_outcome, opened_for}
use Rattle.par_openings.specs.Openings.{open_exercise, FilledFront}
use Rattle.par_openings.specs.declared.opening.Opened.{Opened}

pub record OpenedWell (x block table : List ℕ) (bytes queries_at : ℕ) : Type 0 where
  pub accepted : verdict (open_conditions x) ≡ told tt
  pub part : take bytes block ≡ exercise_block x
  pub valid : Valid (take bytes block)
  pub entries : FilledFront (take bytes block) table
  pub block_fits : bytes ≤ length block
  pub begins : queries_at ≡ exercise_end x

-- an accepted exercise is valid
pub open-valid : (x : List ℕ) → verdict (open_conditions x) ≡ told tt → Valid (exercise_block x)
unfolding open_conditions
open-valid x h =
    let ls = exercise_lines (lines_of x) in
    read-valid ls block_room (verdict-told 2 (leb (length x) longest_input) (read_conditions ls block_room) h).1

-- where a refusal is told, the exercise is refused with its number
module _ (x block table block' table' : List ℕ) (k : ℕ) where
  refused-with :
      (v : Answer (Unit {0})) → open_outcome (refused k) block' table' ≡ opened_for v x block table → v ≡ refused k
  refused-with (refused n) e =
      let answers : ◌≡◌ {A = Answer Opened} (refused k) (refused n) = ap (λ (s : OpenOutcome). s.answer) e in
      cc
  refused-with (told u) e =
      let answers = ap (λ (s : OpenOutcome). s.answer) e in
      absurd (told-refused refl (sym answers))

  pub opened-not :
      open_outcome (refused k) block' table' ≡ open_exercise x block table → verdict (open_conditions x) ≡ refused k
  unfolding open_exercise
  opened-not e = refused-with (verdict (open_conditions x)) e

module _ (x block table block' table' : List ℕ) (bytes queries_at : ℕ) where
  -- what is told of the exercise, and what is so
  abbrev given : Opened
  given = opened bytes queries_at

  abbrev due : Opened
  due = opened (length (exercise_block x)) (exercise_end x)

  by-verdict :
      (v : Answer (Unit {0})) → verdict (open_conditions x) ≡ v
      → open_outcome (told given) block' table' ≡ opened_for v x block table
      → OpenedWell x block' table' bytes queries_at
  by-verdict (refused k) h e =
      let answers : ◌≡◌ {A = Answer Opened} (told given) (refused k) = ap (λ (s : OpenOutcome). s.answer) e in
      absurd (told-refused refl answers)
  by-verdict (told u) h e =
      let b = exercise_block x in
      let fields : ◌≡◌ {A = Answer Opened} (told given) (told due) = ap (λ (s : OpenOutcome). s.answer) e in
      let same : given ≡ due = cc in
      let left : block' ≡ at_front b block = ap (λ (s : OpenOutcome). s.block) e in
      let filled_in : table' ≡ at_front (filled b) table = ap (λ (s : OpenOutcome). s.table) e in
      let long : bytes ≡ length b = ap (λ (o : Opened). o.bytes) same in
      let valid = open-valid x h in
      let part : take bytes block' ≡ b = ap (take bytes) left ∙ front-taken b block bytes long in
      record {
        accepted = h;
        part = part;
        valid = subst Valid (sym part) valid;
        entries = λ k l.
            let own = ap filled part in
            ap (λ (t : List ℕ). get_or t k 0) filled_in
            ∙ get_or-append (filled b) (drop (length (filled b)) table) 0 k (omega (arith, ap length own))
            ∙ ap (λ (t : List ℕ). get_or t k 0) (sym own);
        block_fits = omega (arith, long, ap length left, front_fits b block);
        begins = ap (λ (o : Opened). o.queries_at) same;
      }

  pub opened-well :
      open_outcome (told (opened bytes queries_at)) block' table' ≡ open_exercise x block table
      → OpenedWell x block' table' bytes queries_at
  unfolding open_exercise
  opened-well e = by-verdict (verdict (open_conditions x)) refl e
