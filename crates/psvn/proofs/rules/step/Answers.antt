-- `psvn::rules::step` meets its contract.
-- Both sides lie in the block, and the state has n labels.
use Rattle.std.proofs.Common.{refl, ◌∙◌, arith}
use Rattle.psvn.specs.Rules.{step}
use Rattle.psvn.proofs.rules.step.Goals as goal

pub rewrite-requires : goal.rewrite-requires
rewrite-requires c =
    let e = c.new-block.ensures in (
      rw (c.bytes.ensures.same, e, c.requires.2) (rw e at c.left_at.ensures.inside),
      rw (c.bytes.ensures.same, e, c.requires.2) (rw e at c.right_at.ensures.inside),
      omega arith,
    )

pub returns : goal.returns
unfolding step
returns c =
    c.rewrite.ensures
    ∙ rw (
      c.bytes.ensures.same,
      c.left_at.ensures.place,
      c.right_at.ensures.place,
      c.new-block.ensures,
      c.requires.2,
    ) refl
