-- `blocks::validity::rule_terms_ok` meets its contract.
use Rattle.std.proofs.Common.{ap, ◌∙◌, ℕ, Bool, ◌&&◌}
use borrow.Author.Rules.{rules as std_rules}
use Rattle.basics.specs.Bounded.{all}
use Rattle.basics.proofs.Chains.{all-numbers}
use Rattle.blocks.specs.Layout.{left_of, right_of}
use Rattle.blocks.specs.Validity.{side_ok, rule_terms_ok}
use Rattle.blocks.proofs.validity.rule_terms_ok.Goals as goal

pub returns : goal.returns
unfolding rule_terms_ok
returns c =
    let b = c.args.block.now in
    let test : ℕ → Bool = λ r. side_ok b (left_of b r) && side_ok b (right_of b r) in
    all-numbers c.rules.result test c.all.result c.all.ensures.ran
    (λ x q k. search std_rules) (λ x q k. search std_rules)
    ∙ ap (λ (n : ℕ). all n test) c.rules.ensures.0
