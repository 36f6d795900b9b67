-- `psvn::matching::variables_match` meets its contract.
-- As the constants agree, the variables decide.
use Rattle.std.proofs.Common.{sym, ◌∙◌, length, rules}
use Rattle.basics.proofs.Chains.{all-numbers}
use Rattle.blocks.specs.Layout.{side_at}
use Rattle.psvn.specs.TwoParts.{variable_agrees, variables_agree}
use Rattle.psvn.proofs.MatchingLaws.{by-variables}
use Rattle.psvn.proofs.matching.variables_match.Goals as goal

pub returns : goal.returns
unfolding variables_agree
returns c =
    let s = c.args.state.now in
    let side = side_at c.args.block.now c.args.at in
    all-numbers (length s) (variable_agrees (length s) side s) c.all.result c.all.ensures.ran
    (λ x q k. search rules) (λ x q k. search rules)
    ∙ sym (by-variables (length s) side s c.requires.1)
