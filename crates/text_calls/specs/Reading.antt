-- Reading an exercise, as a public call: `ReadingKept` is what it promises.
-- The value that the call gives is `read_exercise` of `frames`.
use Rattle.std.specs.Prelude.{◌≡◌, ℕ, List, length, take}
use Rattle.refusals.specs.Answers.{Answer, refused, told}
use Rattle.blocks.specs.Validity.{Valid}

-- the block that stands at the front of the buffer, of the length told, is valid
abbrev pub ReadingKept : Answer ℕ → List ℕ → Type 0
ReadingKept (told bytes) out = (length (take bytes out) ≡ bytes) × Valid (take bytes out)
ReadingKept (refused number) out = Unit {0}
