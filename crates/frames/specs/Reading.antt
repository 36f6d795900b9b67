-- Reading an exercise from its lines: `read_exercise` is the answer with the final contents of the lent buffer, for
-- every text. `read_conditions` are the numbers in the reader's order, over the text's lines. The public call of
-- `text_calls`, and opening an exercise in `par`, are stated so.
use Rattle.std.specs.Prelude.{◌≡◌, ℕ, suc, Bool, true, ◌&&◌, leb, ltb, eqb, length}
use mathlib.Core.List.{List, [], ◌∷◌, ◌++◌, flat_map, tail}
use Rattle.basics.specs.Lists.{at_front}
use Rattle.refusals.specs.Answers.{told, Condition, ◌unless◌, verdict, answered, Outcome, outcome, guarded}
use Rattle.refusals.specs.Refusals.{answer_of}
use Rattle.blocks.specs.Layout.{head_length, block_length, frame_count, frame_length}
use Rattle.blocks.specs.Validity.{head_ok, content_conditions}
use Rattle.frames.specs.Lines.{lines_of, line_ok, line_bytes}
use Rattle.frames.specs.Places.{first_line}
use Rattle.frames.specs.declared.reading.Heading.{Heading}

-- "Head, map, each rule and each goal is one frame a line": the head, and the whole block
abbrev pub head_of : List (List ℕ) → List ℕ
head_of ls = line_bytes (first_line ls)

abbrev pub block_of : List (List ℕ) → List ℕ
block_of ls = flat_map line_bytes ls

-- 1: each line is pairs of digits with a line feed
abbrev pub lines_ok : List (List ℕ) → Bool
lines_ok [] = true
lines_ok (l ∷ ls) = line_ok l && lines_ok ls

-- 2, head line: ten digits
abbrev pub head_line_ok : List (List ℕ) → Bool
head_line_ok ls = eqb (length (head_of ls)) head_length

-- 2, others: from frame i on there is a line for each frame that the head h demands, of its length, and no further one
abbrev pub lines_fit : List ℕ → ℕ → List (List ℕ) → Bool
lines_fit h i [] = eqb i (frame_count h)
lines_fit h i (l ∷ ls) =
    ltb i (frame_count h) && (eqb (length (line_bytes l)) (frame_length h i) && lines_fit h (suc i) ls)

-- what turns the head back: 2 for its line, 3
abbrev pub head_conditions : List (List ℕ) → List Condition
head_conditions ls = 2 unless head_line_ok ls ∷ 3 unless head_ok (head_of ls) ∷ []

-- the numbers of the lines, the head and the room for the block; `room` is the length of the buffer
unfoldable pub frame_conditions : List (List ℕ) → ℕ → List Condition
frame_conditions ls room =
    1 unless lines_ok ls
    ∷ (head_conditions ls
    ++ (2 unless lines_fit (head_of ls) 0 (tail ls) ∷ 11 unless leb (block_length (head_of ls)) room ∷ []))

-- "The reader's order is 1, 2 (head line), 3, 2 (others), 11, 5, 6, 7"
unfoldable pub read_conditions : List (List ℕ) → ℕ → List Condition
read_conditions ls room = frame_conditions ls room ++ content_conditions (block_of ls)

-- what is told of the head line of some lines: whether it is right, how long it is, and the head, or what turns it back
pub record HeadRead (ls : List (List ℕ)) (r : Heading) : Type 0 where
  pub right : r.ok ≡ line_ok (first_line ls)
  pub onward : r.next ≡ length (first_line ls)
  pub judged : answer_of r.head ≡ answered (verdict (head_conditions ls)) (head_of ls)

-- the block stands at the front of the buffer
unfoldable pub read_exercise : List ℕ → List ℕ → Outcome ℕ
read_exercise x out =
    guarded (verdict (read_conditions (lines_of x) (length out))) out
    (outcome (told (length (block_of (lines_of x)))) (at_front (block_of (lines_of x)) out))
