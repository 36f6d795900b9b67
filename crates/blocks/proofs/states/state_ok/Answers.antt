-- `blocks::states::state_ok` meets its contract.
use Rattle.std.proofs.Common.{sym, ap, ◌∙◌, ℕ, Bool, ltb, get_or, length, rules}
use borrow.Author.Tests.{eq-eqb, ne_eqb}
use Rattle.basics.specs.Bounded.{all}
use Rattle.basics.proofs.Chains.{all-numbers}
use Rattle.blocks.specs.Layout.{positions, label_count}
use Rattle.blocks.specs.States.{labelled}
use Rattle.blocks.proofs.states.state_ok.Goals as goal

pub returns-then-state-positions : goal.returns-then-state-positions
unfolding labelled
returns-then-state-positions c =
    let b = c.args.block.now in
    let s = c.args.state.now in
    let test : ℕ → Bool = λ i. ltb (get_or s i 0) (label_count b i) in
    let long = c.if-state-positions.true ∙ c.positions.ensures.0 in
    rw (eq-eqb (length s) (positions b) long)
    (all-numbers (length s) test c.all.result c.all.ensures.ran (λ x q k. search rules) (λ x q k. search rules)
    ∙ ap (λ (n : ℕ). all n test) long)

pub returns-else-state-positions : goal.returns-else-state-positions
unfolding labelled
returns-else-state-positions c =
    rw (
      ne_eqb _ _ c.if-state-positions.false,
      ne_eqb (length c.args.state.now) (positions c.args.block.now)
          (λ e. c.if-state-positions.false (e ∙ sym c.positions.ensures.0)),
    )
