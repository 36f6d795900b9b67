-- `blocks::validity::map_ok` meets its contract.
use Rattle.std.proofs.Common.{ap₂, ◌∙◌, ℕ, Bool, ltb, rules}
use Rattle.basics.specs.Bounded.{all}
use Rattle.basics.proofs.Chains.{all-numbers}
use Rattle.blocks.specs.Layout.{map_byte}
use Rattle.blocks.specs.Validity.{map_ok}
use Rattle.blocks.proofs.validity.map_ok.Goals as goal

pub returns : goal.returns
unfolding map_ok
returns c =
    let b = c.args.block.now in
    let test : ℕ → ℕ → Bool = λ k x. ltb (map_byte b x) k in
    all-numbers c.labels.result (test c.abstracts-abstracts.result) c.all.result c.all.ensures.ran
    (λ x q k. search rules) (λ x q k. search rules)
    ∙ ap₂ (λ (n k : ℕ). all n (test k)) c.labels.ensures.0 c.abstracts-abstracts.ensures.0
