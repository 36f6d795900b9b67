-- Where the lines end that the reader receives: behind the first line if the head fails (`end-failed`), else behind the
-- frames (`end_read`); the text up to there has those lines (`exercise-text`), and the text behind it the query lines
-- (`query-text`). Input that is too long is refused (`too-long-refused`), and of any other the reader decides
-- (`reader-decides`).
-- Opening an exercise, and the theorems on the whole output of `par`, rest on these.
use mathlib.Core.Path.{◌≡◌, refl, sym, ap, ◌∙◌, subst}
use mathlib.Core.Bool.{Bool, true, false, cond, ◌&&◌}
use mathlib.Core.List.{List, [], ◌∷◌, flatten}
use Prim.Native.Nat.{ℕ, suc, ◌+◌, ◌≤◌, ◌<◌}
use native.Mathlib.Nat.{zero-add}
use native.Mathlib.Numerals.{one-add}
use native.Mathlib.Omega.{arith}
use lib.ListN.{length, take, drop, length-take}
use borrow.Author.Tests.{le-leb, lt-leb}
use Rattle.refusals.specs.Answers.{refused, told, verdict, ◌unless◌}
use Rattle.refusals.proofs.Verdicts.{told-refused}
use Rattle.blocks.specs.Layout.{frame_count}
use Rattle.blocks.specs.Validity.{head_ok}
use Rattle.frames.specs.Lines.{lines_of, line_ok}
use Rattle.frames.specs.Places.{first_line, line_from}
use Rattle.frames.specs.Reading.{head_of, head_line_ok, head_conditions, read_conditions, HeadRead}
use Rattle.frames.specs.declared.reading.Heading.{Heading}
use Rattle.frames.proofs.ReadingLaws.{head-accepted}
use Rattle.frames.proofs.LinePlaces.{length_to, lines-joined, lines-take, lines-drop, end_step}
use Rattle.par_openings.specs.Openings.{longest_input, block_room, head_reads, exercise_count, exercise_lines}
use Rattle.par_openings.specs.Openings.{query_lines, exercise_end, open_conditions}

-- the head by its line and by what turns it back
pub head-unread : (ls : List (List ℕ)) → line_ok (first_line ls) ≡ false → head_reads ls ≡ false
unfolding head_reads
head-unread ls wrong = rw wrong

module _ (ls : List (List ℕ)) (right : line_ok (first_line ls) ≡ true) where
  pub head-refused : (k : ℕ) → verdict (head_conditions ls) ≡ refused k → head_reads ls ≡ false
  unfolding head_reads
  head-refused k h = rw right (by_tests (head_line_ok ls) (head_ok (head_of ls)) h) where
    by_tests :
        (ten good : Bool) → verdict (2 unless ten ∷ 3 unless good ∷ []) ≡ refused k → (ten && good) ≡ false
    by_tests true true e = absurd (told-refused refl e)
    by_tests true false e = refl
    by_tests false good e = refl

  pub head-reads : verdict (head_conditions ls) ≡ told tt → head_reads ls ≡ true
  unfolding head_reads
  head-reads h = rw (right, (head-accepted ls h).0, (head-accepted ls h).1)

-- the reader receives the first line, if there is one, and what is told of the head line goes by that line alone
first_taken : (n : ℕ) (ls : List (List ℕ)) → first_line (take (suc n) ls) ≡ first_line ls
first_taken n [] = refl
first_taken n (l ∷ ls) = refl

first-handed : (ls : List (List ℕ)) → first_line (exercise_lines ls) ≡ first_line ls
unfolding exercise_count
first-handed ls = by-head (head_reads ls) where
  by-head : (reads : Bool) → first_line (take (cond reads (1 + frame_count (head_of ls)) 1) ls) ≡ first_line ls
  by-head true =
      ap (λ (n : ℕ). first_line (take n ls)) (one-add (frame_count (head_of ls)))
      ∙ first_taken (frame_count (head_of ls)) ls
  by-head false = first_taken 0 ls

pub head-handed : (ls : List (List ℕ)) (r : Heading) → HeadRead ls r → HeadRead (exercise_lines ls) r
head-handed ls r h =
    let alone : HeadRead (first_line ls ∷ []) r =
    record { right = h.right; onward = h.onward; judged = h.judged } in
    let k = subst (λ (l : List ℕ). HeadRead (l ∷ []) r) (sym (first-handed ls)) alone in
    record { right = k.right; onward = k.onward; judged = k.judged }

module _ (x : List ℕ) where
  pub end-failed : head_reads (lines_of x) ≡ false → exercise_end x ≡ length (line_from x 0)
  unfolding exercise_count flatten
  end-failed h = rw h (omega (arith, end_step x 0 0))

  pub end_read :
      head_reads (lines_of x) ≡ true
      → exercise_end x
      ≡ length (line_from x 0) + length_to (frame_count (head_of (lines_of x))) (drop (length (line_from x 0)) x)
  unfolding exercise_count
  end_read h =
      let count = frame_count (head_of (lines_of x)) in
      rw h
      (ap (λ (k : ℕ). length_to k x) (one-add count)
      ∙ omega (
        arith,
        end_step x 0 count,
        ap (λ (k : ℕ). length_to count (drop k x)) (zero-add (length (line_from x 0))),
      ))

  -- the lines on both sides of that place
  pub exercise-text : lines_of (take (exercise_end x) x) ≡ exercise_lines (lines_of x)
  exercise-text = lines-take x (exercise_count (lines_of x))

  pub query-text : lines_of (drop (exercise_end x) x) ≡ query_lines (lines_of x)
  query-text = lines-drop x (exercise_count (lines_of x))

  pub end-inside : exercise_end x ≤ length x
  end-inside =
      let joined = sym (lines-joined (take (exercise_end x) x)) ∙ ap flatten exercise-text in
      omega (arith, ap length joined, length-take (exercise_end x) x)

  pub too-long-refused : longest_input < length x → verdict (open_conditions x) ≡ refused 2
  unfolding open_conditions
  too-long-refused l = rw (lt-leb (length x) longest_input l)

  pub reader-decides :
      length x ≤ longest_input
      → verdict (open_conditions x) ≡ verdict (read_conditions (exercise_lines (lines_of x)) block_room)
  unfolding open_conditions
  reader-decides l = rw (le-leb (length x) longest_input l)
