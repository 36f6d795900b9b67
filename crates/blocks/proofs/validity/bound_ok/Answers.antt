-- `blocks::validity::bound_ok` meets its contract.
use Rattle.std.proofs.Common.{ap, ◌∙◌, ℕ, rules}
use Rattle.basics.specs.Bounded.{all}
use Rattle.basics.proofs.Chains.{all-numbers}
use Rattle.blocks.specs.Validity.{rule_bound, bound_ok}
use Rattle.blocks.proofs.validity.bound_ok.Goals as goal

pub returns : goal.returns
unfolding bound_ok
returns c =
    let test = rule_bound c.args.block.now in
    all-numbers c.rules.result test c.all.result c.all.ensures.ran (λ x q k. search rules) (λ x q k. search rules)
    ∙ ap (λ (n : ℕ). all n test) c.rules.ensures.0
