-- Relabelling a block, as a public call: `relabel_exercise` is the answer with the final contents of the lent buffer,
-- for every input, and `RelabellingKept` what the call promises.
use Rattle.std.specs.Prelude.{◌≡◌, ℕ, List, [], ◌∷◌, ◌++◌, leb, length, take}
use Rattle.basics.specs.Lists.{at_front}
use Rattle.refusals.specs.Answers.{Answer, refused, told, Condition, ◌unless◌, verdict, Outcome, outcome, guarded}
use Rattle.blocks.specs.Validity.{block_conditions, Valid}
use Rattle.psvn.specs.Relabelling.{relabel_block}

-- 3 to 7, then 11, which measures the block to be written; `room` is the length of the buffer
unfoldable pub relabel_conditions : List ℕ → ℕ → List Condition
relabel_conditions b room = block_conditions b ++ (11 unless leb (length (relabel_block b)) room ∷ [])

-- the length of the relabelled block is told
unfoldable pub relabel_exercise : List ℕ → List ℕ → Outcome ℕ
relabel_exercise b out =
    guarded (verdict (relabel_conditions b (length out))) out
    (outcome (told (length (relabel_block b))) (at_front (relabel_block b) out))

-- the block that stands at the front of the buffer, of the length told, is valid, and relabelling it changes nothing
abbrev pub RelabellingKept : Answer ℕ → List ℕ → Type 0
RelabellingKept (told bytes) out =
    (length (take bytes out) ≡ bytes) × Valid (take bytes out) × (relabel_block (take bytes out) ≡ take bytes out)
RelabellingKept (refused number) out = Unit {0}
