-- The line of bytes that are known by another name is their line (`line_of_lem`).
-- That a printed line is the line of a record rests on this.
use mathlib.Core.Path.{◌≡◌, ap, ◌∙◌}
use mathlib.Core.List.{List}
use Prim.Native.Nat.{ℕ}
use lib.ListN.{length}
use Rattle.basics.specs.Lists.{at_front}
use Rattle.frames.specs.Lines.{line_of}
use Rattle.records.specs.Records.{Written}

pub line_of_lem :
    {taken bytes old new : List ℕ} {n : ℕ} → (n ≡ length (line_of taken)) × (new ≡ at_front (line_of taken) old)
    → taken ≡ bytes → Written (line_of bytes) old n new
line_of_lem {old = old} w e =
    record {
      told = w.0 ∙ ap (λ (l : List ℕ). length (line_of l)) e;
      front = w.1 ∙ ap (λ (l : List ℕ). at_front (line_of l) old) e;
    }
