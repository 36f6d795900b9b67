-- `blocks::validity::goal_terms_ok` meets its contract.
use Rattle.std.proofs.Common.{ap, ◌∙◌, ℕ, Bool, rules}
use Rattle.basics.specs.Bounded.{all}
use Rattle.basics.proofs.Chains.{all-numbers}
use Rattle.blocks.specs.Layout.{goal_of}
use Rattle.blocks.specs.Validity.{side_ok, goal_terms_ok}
use Rattle.blocks.proofs.validity.goal_terms_ok.Goals as goal

pub returns : goal.returns
unfolding goal_terms_ok
returns c =
    let b = c.args.block.now in
    let test : ℕ → Bool = λ g. side_ok b (goal_of b g) in
    all-numbers c.goals.result test c.all.result c.all.ensures.ran (λ x q k. search rules) (λ x q k. search rules)
    ∙ ap (λ (n : ℕ). all n test) c.goals.ensures.0
