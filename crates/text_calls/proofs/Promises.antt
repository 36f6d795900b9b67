-- What reading an exercise promises, from the value that it gives: `reading_kept`.
-- The proof of the call rests on this for the second part of its contract.
use mathlib.Core.Path.{◌≡◌, refl, sym, subst}
use mathlib.Core.List.{List}
use Prim.Native.Nat.{ℕ}
use lib.ListN.{length}
use Rattle.basics.specs.Lists.{at_front}
use Rattle.basics.proofs.Lists.{front-taken}
use Rattle.refusals.specs.Answers.{Answer, refused, told, verdict, Outcome, outcome, guarded}
use Rattle.frames.specs.Lines.{lines_of}
use Rattle.frames.specs.Reading.{block_of, read_conditions, read_exercise}
use Rattle.frames.proofs.AcceptedText.{read-valid}
use Rattle.text_calls.specs.Reading.{ReadingKept}

module _ (x out : List ℕ) where
  -- by the verdict
  read_by :
      (v : Answer (Unit {0})) → verdict (read_conditions (lines_of x) (length out)) ≡ v
      → (let b = block_of (lines_of x) in
      let o = guarded v out (outcome (told (length b)) (at_front b out)) in
      ReadingKept o.answer o.out)
  read_by (refused k) h = tt
  read_by (told u) h =
      let b = block_of (lines_of x) in
      rw (front-taken b out (length b) refl) (refl, read-valid (lines_of x) (length out) h)

  pub reading_kept : {a : Answer ℕ} {out' : List ℕ} → outcome a out' ≡ read_exercise x out → ReadingKept a out'
  unfolding read_exercise
  reading_kept e = subst (λ (o : Outcome ℕ). ReadingKept o.answer o.out) (sym e) (read_by _ refl)
