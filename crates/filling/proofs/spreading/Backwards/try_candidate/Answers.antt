-- `filling::spreading::Backwards::try_candidate` meets its contract.
-- A candidate that passes the tests is a state that the edge's rule takes to its end.
use Rattle.std.proofs.Common.{◌∙◌}
use Rattle.filling.proofs.Predecessors.{candidate-lowers}
use Rattle.filling.proofs.spreading.Backwards.try_candidate.Goals as goal

pub lower-requires-clause-lowering : goal.lower-requires-clause-lowering
lower-requires-clause-lowering c =
    let s = c.args.self.now in
    let made = s.ranked.compiled in
    let edge = c.args.edge in
    let p = c.requires in (
      candidate-lowers made.block.now made.code.now made.weights.now s.ranked.words.now c.args.table.now
          made.ready s.ranked.ranked p.good edge.rule edge.to p.in_block.0 p.in_block.1
          c.rank_word-u.result c.args.candidate c.step_word.result
          c.applies_word.result c.if-table-u.false c.if-self-u.false c.applies_word.ensures
          c.if-not-applies_word.false c.step_word.ensures
          c.if-step_word-self.false,
      c.cost_word-cost.ensures.0 ∙ (made.ready.compiled.rule edge.rule p.in_block.0).cost,
      c.cost_word-cost.ensures.1,
    )
