-- `blocks::validity::side_ok` meets its contract.
use Rattle.std.proofs.Common.{ap, ◌∙◌, ℕ, Bool, rules}
use Rattle.basics.specs.Bounded.{all}
use Rattle.basics.proofs.Chains.{all-numbers}
use Rattle.blocks.specs.Terms.{term_of, term_ok}
use Rattle.blocks.specs.Layout.{label_count, side_at}
use Rattle.blocks.specs.Validity.{side_ok}
use Rattle.blocks.proofs.validity.side_ok.Goals as goal

pub returns : goal.returns
unfolding side_ok
returns c =
    let b = c.args.block.now in
    let test : ℕ → Bool = λ i. term_ok (label_count b i) (term_of (side_at b c.args.at i)) in
    all-numbers c.positions-n.result test c.all.result c.all.ensures.ran (λ x q k. search rules) (λ x q k. search rules)
    ∙ ap (λ (n : ℕ). all n test) c.positions-n.ensures.0
