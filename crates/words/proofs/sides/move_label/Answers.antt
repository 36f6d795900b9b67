-- `words::sides::move_label` meets its contract.
-- A label has four bits, so that none is shifted out.
use Rattle.std.proofs.Common.{ℕ, ◌*◌, ◌%◌, ◌^◌, ap, ◌∙◌, arith}
use Rattle.words.specs.Sides.{moved}
use Rattle.words.proofs.WordDigits.{shifted}
use Rattle.words.proofs.sides.move_label.Goals as goal

pub returns : goal.returns
unfolding moved
returns c =
    let to = c.args.to % 16 in
    shifted _ to c.digit.ensures.1 (omega arith) ∙ ap (λ (d : ℕ). d * 16 ^ to) c.digit.ensures.0
