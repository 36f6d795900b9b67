-- `psvn::matching::side_matches` meets its contract.
-- With no constant that differs the second part decides, and a position where one does rules the side out.
use Rattle.std.proofs.Common.{sym, length}
use Rattle.blocks.specs.Layout.{side_at}
use Rattle.psvn.proofs.MatchingLaws.{constants-agree, ruled_out}
use Rattle.psvn.proofs.matching.side_matches.Goals as goal

pub variables_match-requires : goal.variables_match-requires
variables_match-requires c =
    let a = c.args in (
      c.requires,
      constants-agree (length a.state.now) (side_at a.block.now a.at) a.state.now
          (sym c.in-None.ensures.result_value),
    )

pub returns-in-Some : goal.returns-in-Some
returns-in-Some c =
    let a = c.args in
    sym (ruled_out (length a.state.now) (side_at a.block.now a.at) a.state.now _ (sym c.in-Some.ensures.result_value))
