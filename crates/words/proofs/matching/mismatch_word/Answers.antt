-- `words::matching::mismatch_word` meets its contract.
-- The bits in which the word differs from what is asked tell the lowest position, or that there is none.
use Rattle.std.proofs.Common.{◌≡◌, ℕ, ◌/◌, List, Option, Some, sym, refl, ap, ◌∙◌, subst, arith}
use Rattle.psvn.specs.TwoParts.{MismatchMeans}
use Rattle.psvn.proofs.MatchingLaws.{mismatch-means}
use Rattle.words.specs.Sides.{constant_agrees_word, mismatch_word}
use Rattle.words.proofs.WordMismatch.{mismatch-none, mismatch-found}
use Rattle.words.proofs.matching.mismatch_word.Goals as goal

-- what an answer means that is the definition's
told :
    (code : List ℕ) (x w : ℕ) {answer : Option ℕ} → mismatch_word code x w ≡ answer
    → (answer ≡ mismatch_word code x w) × MismatchMeans 16 (constant_agrees_word code x w) answer
unfolding mismatch_word
told code x w e = (
  sym e,
  subst (MismatchMeans 16 (constant_agrees_word code x w)) e
      (mismatch-means 16 (constant_agrees_word code x w)),
)

pub returns-then-differing-eq0 : goal.returns-then-differing-eq0
returns-then-differing-eq0 c =
    let a = c.args in
    let told = told a.code.now a.x a.word (mismatch-none a.code.now a.x a.word _ refl c.if-differing-eq0.true) in
    record { result_value = told.0; mismatch_means = told.1 }

pub returns-else-differing-eq0 : goal.returns-else-differing-eq0
returns-else-differing-eq0 c =
    let a = c.args in
    let low = c.lowest_of.ensures in
    let told = told a.code.now a.x a.word
    (mismatch-found a.code.now a.x a.word _ refl (omega arith)
    ∙ ap (λ (k : ℕ). Some (k / 4)) (sym low.0)) in record { result_value = told.0; mismatch_means = told.1 }
