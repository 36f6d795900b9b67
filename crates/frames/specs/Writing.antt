-- The text of a block: its frames (`frames_of`), one a line (`text_of`).
-- That every valid block can be read from its text is stated with it.
use Rattle.std.specs.Prelude.{ℕ, zero, suc, take, drop}
use mathlib.Core.List.{List, [], ◌∷◌, flat_map}
use Rattle.blocks.specs.Layout.{head_length, frame_count, frame_length}
use Rattle.frames.specs.Lines.{line_of}

-- k frames from frame i on, as long as the head h says, cut from what stands there
abbrev pub frames_from : List ℕ → ℕ → ℕ → List ℕ → List (List ℕ)
frames_from h i zero rest = []
frames_from h i (suc k) rest =
    take (frame_length h i) rest ∷ frames_from h (suc i) k (drop (frame_length h i) rest)

-- the head, and the frames behind it
abbrev pub frames_of : List ℕ → List (List ℕ)
frames_of b =
    take head_length b ∷ frames_from (take head_length b) 0 (frame_count (take head_length b)) (drop head_length b)

-- "Head, map, each rule and each goal is one frame a line"
unfoldable pub text_of : List ℕ → List ℕ
text_of b = flat_map line_of (frames_of b)
