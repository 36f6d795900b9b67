-- `words::matching::matches_word` meets its contract.
-- With no constant that differs the second part decides, and a position where one does rules the side out.
use Rattle.std.proofs.Common.{Bool, not, ◌&&◌, sym, ap, ◌∙◌}
use Rattle.std.specs.Prelude.{is_some}
use Rattle.std.proofs.lemmas.Bool.{not-false, not-true}
use Rattle.words.specs.Sides.{constants_word, variables_word, matches_word}
use Rattle.words.proofs.WordMismatch.{mismatch-told}
use Rattle.words.proofs.matching.matches_word.Goals as goal

pub variables_match_word-requires : goal.variables_match_word-requires
variables_match_word-requires c =
    let a = c.args in (
      c.requires,
      not-false (constants_word a.code.now a.x a.word)
          (sym (mismatch-told a.code.now a.x a.word) ∙ ap is_some (sym c.mismatch_word.ensures.result_value)
          ∙ c.is_none.ensures ∙ ap not c.if-is_none.true),
    )

pub returns-else-is_none : goal.returns-else-is_none
unfolding matches_word
returns-else-is_none c =
    let a = c.args in
    let differ = not-true (constants_word a.code.now a.x a.word)
    (sym (mismatch-told a.code.now a.x a.word) ∙ ap is_some (sym c.mismatch_word.ensures.result_value)
    ∙ c.is_none.ensures ∙ ap not c.if-is_none.false) in
    c.if-is_none.false ∙ sym (ap (λ (t : Bool). t && variables_word a.code.now a.x a.word) differ)
