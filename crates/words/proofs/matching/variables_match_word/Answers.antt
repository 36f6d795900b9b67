-- `words::matching::variables_match_word` meets its contract.
use Rattle.std.proofs.Common.{◌≡◌, ℕ, ◌+◌, ◌/◌, ◌%◌, Bool, true, ◌&&◌, eqb, List, sym, ap, ◌∙◌, ap₂, ⊎_elim}
use Rattle.std.proofs.Common.{le_of_suc-le-suc, eq-or-lt_of_le, div-one, add-one, arith}
use Rattle.basics.proofs.Bounded.{all-passed, all-false}
use Rattle.words.specs.Packing.{digit}
use Rattle.words.specs.Sides.{count_at, from_at, to_at, move_agrees, constants_word, variables_word}
use Rattle.words.specs.Sides.{matches_word}
use Rattle.words.proofs.WordDigits.{digits-rest}
use Rattle.words.proofs.matching.variables_match_word.Goals as goal
use Rattle.words.proofs.matching.variables_match_word.Invariants.{Agreed}

-- the test of each move
abbrev test : List ℕ → ℕ → ℕ → ℕ → Bool
test code x word = move_agrees word (from_at code x) (to_at code x)

-- the moves decide
decided :
    (code : List ℕ) (x word : ℕ) → constants_word code x word ≡ true
    → matches_word code x word ≡ variables_word code x word
unfolding matches_word
decided code x word e = ap (λ (t : Bool). t && variables_word code x word) e

-- the move at hand is move j
agrees-next :
    (code : List ℕ) (x word from to j : ℕ) {t : Bool} → Agreed code x word from to j
    → t ≡ eqb (digit word (to % 16)) (digit word (from % 16)) → t ≡ test code x word j
unfolding digit
agrees-next code x word from to j k e =
    e ∙ ap₂ (λ (y z : ℕ). eqb (digit word (z % 16)) (digit word (y % 16))) k.0 k.1

-- one move more
agreed-more :
    (code : List ℕ) (x word from to j : ℕ) → Agreed code x word from to j → test code x word j ≡ true
    → Agreed code x word (from / 16) (to / 16) (j + 1)
agreed-more code x word from to j k h = rw (add-one j) (
  ap (λ (y : ℕ). y / 16) k.0 ∙ digits-rest _ j,
  ap (λ (y : ℕ). y / 16) k.1 ∙ digits-rest _ j,
  λ i l. ⊎_elim (λ e. rw e h) (λ m. k.2 i m) (eq-or-lt_of_le (le_of_suc-le-suc l)),
)

pub loop-init : goal.loop-init
loop-init c = (sym (div-one _), sym (div-one _), λ k l. absurd (omega arith))

pub returns-then-not-move_agrees : goal.returns-then-not-move_agrees
unfolding variables_word
returns-then-not-move_agrees c =
    let a = c.args in
    let l = c.loop in
    sym (decided a.code.now a.x a.word c.requires.1
    ∙ all-false (test a.code.now a.x a.word) (count_at a.code.now a.x) l.counter (omega arith)
    (sym (agrees-next a.code.now a.x a.word _ _ l.counter l.invariant c.move_agrees.ensures)
    ∙ c.if-not-move_agrees.true))

pub loop-preserved : goal.loop-preserved
loop-preserved c =
    let a = c.args in
    let l = c.loop in
    agreed-more a.code.now a.x a.word _ _ l.counter l.invariant
    (sym (agrees-next a.code.now a.x a.word _ _ l.counter l.invariant c.move_agrees.ensures)
    ∙ c.if-not-move_agrees.false)

pub returns : goal.returns
unfolding variables_word
returns c =
    let a = c.args in
    let l = c.loop in
    sym (decided a.code.now a.x a.word c.requires.1
    ∙ all-passed (test a.code.now a.x a.word) (count_at a.code.now a.x) l.counter (omega arith) l.invariant.2)
