-- `search::scanning::applies_in` meets its contract.
-- A plain rule has no variable to look at, and so applies.
use mathlib.Core.Path.{sym, ◌∙◌}
use Rattle.search.proofs.Rests.{applies-plain}
use Rattle.search.proofs.scanning.applies_in.Goals as goal

pub returns-then-has : goal.returns-then-has
returns-then-has c =
    let plain = sym c.has.ensures ∙ c.if-has.true in
    c.if-has.true ∙ sym (applies-plain c.requires.2 c.args.r c.args.word plain c.requires.1)
