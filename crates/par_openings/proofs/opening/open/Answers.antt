-- `par_openings::opening::open` meets its contract.
-- Refused with both buffers as they were, or the block and its filled table at their fronts.
use mathlib.Core.Path.{◌≡◌, sym, ap, ap₂, ◌∙◌, subst}
use mathlib.Core.List.{List}
use Prim.Native.Nat.{ℕ, ◌≤◌}
use native.Mathlib.Omega.{arith}
use lib.ListN.{length, take}
use lib.Seq.{length-take-le}
use Rattle.std.proofs.lemmas.Result.{err_from_is_err_and}
use Rattle.basics.specs.Lists.{at_front}
use Rattle.basics.proofs.Lists.{front_fits, front-taken}
use Rattle.refusals.specs.Answers.{Answer, refused, told, verdict, Outcome, outcome, guarded}
use Rattle.refusals.proofs.Verdicts.{guarded-refused, guarded-told}
use Rattle.blocks.specs.Layout.{abstract_states}
use Rattle.blocks.specs.Validity.{Valid}
use Rattle.filling.specs.FilledTables.{filled}
use Rattle.frames.specs.Lines.{lines_of}
use Rattle.frames.specs.Reading.{block_of, read_conditions, HeadRead, read_exercise}
use Rattle.frames.specs.declared.reading.Heading.{Heading}
use Rattle.frames.proofs.AcceptedText.{read-valid}
use Rattle.par_openings.specs.Openings.{longest_input, block_room, exercise_lines, exercise_end, exercise_block}
use Rattle.par_openings.specs.Openings.{open_conditions, opened, open_outcome, opened_for, open_exercise}
use Rattle.par_openings.proofs.OpeningLaws.{head-handed, exercise-text, end-inside}
use Rattle.par_openings.proofs.OpeningLaws.{too-long-refused, reader-decides}
use Rattle.par_openings.proofs.opening.open.Goals as goal

-- an open exercise, part by part
told-so :
    {n m p q : ℕ} {block block' table table' : List ℕ} → n ≡ m → p ≡ q → block ≡ block' → table ≡ table'
    → open_outcome (told (opened n p)) block table ≡ open_outcome (told (opened m q)) block' table'
told-so a b c d = λ i. open_outcome (told (opened (a i) (b i))) (c i) (d i)

-- what is opened by a verdict
by-verdict :
    (x block table : List ℕ) (v : Answer (Unit {0})) → verdict (open_conditions x) ≡ v
    → opened_for v x block table ≡ open_exercise x block table
unfolding open_exercise
by-verdict x block table v h = sym (ap (λ (w : Answer (Unit {0})). opened_for w x block table) h)

-- the exercise ends at `end`
module _ (x : List ℕ) (end : ℕ) (is : end ≡ exercise_end x) where
  inside : end ≤ length x
  inside = omega (arith, is, end-inside x)

  -- the text that is handed on has the exercise's lines
  handed : lines_of (take end x) ≡ exercise_lines (lines_of x)
  handed = ap (λ (k : ℕ). lines_of (take k x)) is ∙ exercise-text x

  headed : (r : Heading) → HeadRead (lines_of x) r → HeadRead (lines_of (take end x)) r
  headed r h = subst (λ (ls : List (List ℕ)). HeadRead ls r) (sym handed) (head-handed (lines_of x) r h)

  -- what the reader says of the exercise's lines
  abbrev said : Answer (Unit {0})
  said = verdict (read_conditions (exercise_lines (lines_of x)) block_room)

  module _ (out : List ℕ) (room : length out ≡ block_room) where
    -- what the reader leaves of lines in a room
    abbrev left-of : List (List ℕ) → ℕ → Outcome ℕ
    left-of ls most =
        guarded (verdict (read_conditions ls most)) out
        (outcome (told (length (block_of ls))) (at_front (block_of ls) out))

    due : read_exercise (take end x) out ≡ left-of (exercise_lines (lines_of x)) block_room
    unfolding read_exercise
    due = ap₂ left-of handed room

    not-read :
        (k : ℕ) (left : List ℕ) → outcome (refused k) left ≡ read_exercise (take end x) out
        → (said ≡ refused k) × (left ≡ out)
    not-read k left e =
        let b = exercise_block x in
        guarded-refused out (at_front b out) left (length b) k said (e ∙ due)

    refuse :
        (k : ℕ) (left table : List ℕ) → outcome (refused k) left ≡ read_exercise (take end x) out
        → length x ≤ longest_input → open_outcome (refused k) left table ≡ open_exercise x out table
    refuse k left table e l =
        let no = not-read k left e in
        ap (λ (b : List ℕ). open_outcome (refused k) b table) no.1
        ∙ by-verdict x out table (refused k) (reader-decides x l ∙ no.0)

    -- n bytes were read
    module _ (n : ℕ) (left : List ℕ) (read : outcome (told n) left ≡ read_exercise (take end x) out) where
      done : (said ≡ told tt) × (n ≡ length (exercise_block x)) × (left ≡ at_front (exercise_block x) out)
      done =
          let b = exercise_block x in
          guarded-told out (at_front b out) left (length b) n said (read ∙ due)

      fits : n ≤ length left
      fits = omega (arith, done.1, ap length done.2, front_fits (exercise_block x) out)

      -- the part that is filled from is the block
      part : take n left ≡ exercise_block x
      part = ap (take n) done.2 ∙ front-taken (exercise_block x) out n done.1

      valid : Valid (exercise_block x)
      valid = read-valid (exercise_lines (lines_of x)) block_room done.0

      filled_from : Valid (take n left) × (abstract_states (take n left) ≤ 16384)
      filled_from = (subst Valid (sym part) valid, omega (arith, ap abstract_states part, valid.sized.headed.few))

pub returns-then-input-gt-LONGEST_INPUT : goal.returns-then-input-gt-LONGEST_INPUT
returns-then-input-gt-LONGEST_INPUT c =
    by-verdict c.args.input.now _ _ _ (too-long-refused c.args.input.now c.if-input-gt-LONGEST_INPUT.true)

pub slice_bounds-read_text-end : goal.slice_bounds-read_text-end
slice_bounds-read_text-end c =
    let x = c.args.input.now in
    sym (length-take-le _ x (inside x _ c.exercise_end-queries_at.ensures))

pub read_text-requires : goal.read_text-requires
read_text-requires c =
    headed c.args.input.now _ c.exercise_end-queries_at.ensures _ c.read_head-heading.ensures

pub returns-in_err-bytes : goal.returns-in_err-bytes
returns-in_err-bytes c =
    let x = c.args.input.now in
    let end = c.exercise_end-queries_at.ensures in
    let p = err_from_is_err_and c.from_residual.result c.from_residual.ensures.1 in
    rw
    (p.1, p.2)
    (refuse x _ end c.args.block.now c.told-block _ _ c.args.table.now c.in_err-bytes.ensures
    c.if-input-gt-LONGEST_INPUT.false)

pub shared_ref_as_front-fill : goal.shared_ref_as_front-fill
shared_ref_as_front-fill c =
    let end = c.exercise_end-queries_at.ensures in
    let f = fits c.args.input.now _ end c.args.block.now c.told-block _ _ c.in_ok-bytes.ensures in
    omega (arith, f, c.read_text.auto.out, c.told-block)

pub fill-requires : goal.fill-requires
fill-requires c =
    let end = c.exercise_end-queries_at.ensures in
    let f = filled_from c.args.input.now _ end c.args.block.now c.told-block _ _ c.in_ok-bytes.ensures in
    (f.0, omega (arith, f.1, c.told-table))

pub returns : goal.returns
returns c =
    let x = c.args.input.now in
    let table = c.args.table.now in
    let end = c.exercise_end-queries_at.ensures in
    let yes = done x _ end c.args.block.now c.told-block _ _ c.in_ok-bytes.ensures in
    let same = part x _ end c.args.block.now c.told-block _ _ c.in_ok-bytes.ensures in
    told-so yes.1 end yes.2 (c.fill.ensures ∙ ap (λ (b : List ℕ). at_front (filled b) table) same)
    ∙ by-verdict x _ table _ (reader-decides x c.if-input-gt-LONGEST_INPUT.false ∙ yes.0)
