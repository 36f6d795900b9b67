-- `psvn::rules::leads` meets its contract.
-- Both sides lie in the block, and the states have n labels.
use Rattle.std.proofs.Common.{refl, sym, ◌∙◌}
use Rattle.psvn.specs.Rules.{applies, step, leads}
use Rattle.psvn.proofs.rules.leads.Goals as goal

pub side_matches-requires : goal.side_matches-requires
side_matches-requires c =
    let e = c.new-block.ensures in
    rw (c.bytes.ensures.same, e, c.requires.2) (rw e at c.left_at-left.ensures.inside)

pub makes-requires : goal.makes-requires
makes-requires c =
    let e = c.new-block.ensures in
    let n = c.requires.2 in (
      rw (c.bytes-then-side_matches.ensures.same, e, n) (rw e at c.left_at-left.ensures.inside),
      rw (c.bytes-then-side_matches.ensures.same, e, n) (rw e at c.right_at.ensures.inside),
      c.requires.3 ∙ sym n,
    )

pub returns-then-side_matches : goal.returns-then-side_matches
unfolding leads applies step
returns-then-side_matches c =
    let m =
    rw (c.bytes.ensures.same, c.left_at-left.ensures.place, c.new-block.ensures, c.requires.2) at
    (sym c.side_matches.ensures ∙ c.if-side_matches.true) in
    c.makes.ensures
    ∙ rw (
      c.bytes-then-side_matches.ensures.same,
      c.left_at-left.ensures.place,
      c.right_at.ensures.place,
      c.new-block.ensures,
      c.requires.2,
      m,
    ) refl

pub returns : goal.returns
unfolding leads applies step
returns c =
    let m =
    rw (c.bytes.ensures.same, c.left_at-left.ensures.place, c.new-block.ensures, c.requires.2) at
    (sym c.side_matches.ensures ∙ c.if-side_matches.false) in
    sym (rw m refl)
