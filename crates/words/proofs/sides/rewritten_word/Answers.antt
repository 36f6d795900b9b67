-- `words::sides::rewritten_word` meets its contract.
use Rattle.std.proofs.Common.{◌≡◌, ℕ, suc, ◌/◌, ◌%◌, List, sym, refl, ap, ◌∙◌, ap₂, div-one, add-one, arith}
use lib.Bits.{bit_or}
use Rattle.words.specs.Packing.{digit}
use Rattle.words.specs.Sides.{count_at, from_at, to_at, moved, join_moves, rewritten_word}
use Rattle.words.proofs.WordDigits.{digits-rest}
use Rattle.words.proofs.sides.rewritten_word.Goals as goal
use Rattle.words.proofs.sides.rewritten_word.Invariants.{Joined}

-- one move more
joined-more :
    (code : List ℕ) (x word made from to label j : ℕ) → Joined code x word made from to j
    → label ≡ moved word (from % 16) (to % 16)
    → Joined code x word (bit_or made label) (from / 16) (to / 16) (suc j)
unfolding join_moves digit
joined-more code x word made from to label j k e = (
  ap₂ bit_or k.0 (e ∙ ap₂ (λ (y z : ℕ). moved word (y % 16) (z % 16)) k.1 k.2),
  ap (λ (y : ℕ). y / 16) k.1 ∙ digits-rest (from_at code x) j,
  ap (λ (y : ℕ). y / 16) k.2 ∙ digits-rest (to_at code x) j,
)

pub loop-init : goal.loop-init
unfolding join_moves
loop-init c = (refl, sym (div-one _), sym (div-one _))

pub loop-preserved : goal.loop-preserved
loop-preserved c =
    let a = c.args in
    let l = c.loop in
    rw (← add-one l.counter) at
    (joined-more a.code.now a.x a.word l.made l.from l.to _ l.counter l.invariant c.move_label-made.ensures)

pub returns : goal.returns
unfolding rewritten_word
returns c =
    let a = c.args in
    let l = c.loop in
    let all : l.counter ≡ count_at a.code.now a.x = omega arith in
    (rw all at l.invariant).0
