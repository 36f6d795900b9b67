-- `tables::edges::Compiled::passes_everywhere` meets its contract.
use Rattle.std.proofs.Common.{sym, ◌∙◌, arith}
use Rattle.basics.proofs.Bounded.{all-false, all-passed}
use Rattle.blocks.specs.Layout.{abstract_states}
use Rattle.distances.specs.LowerBounds.{passes_at, passes}
use Rattle.tables.specs.Abstraction.{graph_of}
use Rattle.tables.proofs.edges.Compiled.passes_everywhere.Goals as goal

pub returns-then-not-passes_at : goal.returns-then-not-passes_at
unfolding passes
returns-then-not-passes_at c =
    let b = c.args.self.now.block.now in
    let l = c.loop-u in
    sym (all-false (passes_at (graph_of b) c.args.table.now) (abstract_states b) l.u
    (omega arith) (sym c.passes_at.ensures ∙ c.if-not-passes_at.true))

pub returns : goal.returns
unfolding passes
returns c =
    let b = c.args.self.now.block.now in
    let l = c.loop-u in
    sym (all-passed (passes_at (graph_of b) c.args.table.now) (abstract_states b) l.u
    (omega arith) l.invariant)
