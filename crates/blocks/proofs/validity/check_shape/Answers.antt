-- `blocks::validity::check_shape` meets its contract.
-- At each return the tests that led there say which condition is the first to fail.
use Rattle.std.proofs.Common.{sym, ◌∙◌}
use borrow.Author.Tests.{eq-eqb, ne_eqb}
use Rattle.blocks.specs.Validity.{length_ok, shape_conditions}
use Rattle.blocks.proofs.Accepted.{headed}
use Rattle.blocks.proofs.validity.check_shape.Goals as goal

pub returns-then-not-head_ok : goal.returns-then-not-head_ok
unfolding shape_conditions
returns-then-not-head_ok c = sym (rw (sym c.head_ok.ensures ∙ c.if-not-head_ok.true))

pub block_length-requires : goal.block_length-requires
block_length-requires c = headed c.args.block.now (sym c.head_ok.ensures ∙ c.if-not-head_ok.false)

pub returns-then-block-block_length : goal.returns-then-block-block_length
unfolding shape_conditions length_ok
returns-then-block-block_length c =
    sym (rw (
      sym c.head_ok.ensures ∙ c.if-not-head_ok.false,
      ne_eqb _ _ (λ e. c.if-block-block_length.true (e ∙ sym c.block_length.ensures.0)),
    ))

pub returns : goal.returns
unfolding shape_conditions length_ok
returns c =
    sym (rw (
      sym c.head_ok.ensures ∙ c.if-not-head_ok.false,
      eq-eqb _ _ (c.if-block-block_length.false ∙ c.block_length.ensures.0),
    ))
