-- `filling::filling::fill_relabelled` meets its contract.
-- Once the block is compiled the arrays are ready, and sweeps leave the least costs.
use Rattle.distances.proofs.LeastCostLaws.{least-costs-only}
use Rattle.tables.specs.Abstraction.{graph_of, Ready}
use Rattle.tables.proofs.WordEdges.{cheap, few}
use Rattle.filling.proofs.filling.fill_relabelled.Goals as goal

pub returns-then-sweeps : goal.returns-then-sweeps
returns-then-sweeps c =
    let a = c.args.block.now in
    let code = c.compile.new.code in
    let weights = c.place_weights.new.weights in
    let ready : Ready a code weights =
    record { relabelled = c.requires.0; compiled = c.compile.ensures; weighted = c.place_weights.ensures } in (
      c.settle.ensures.0,
      λ _.
          least-costs-only (graph_of a) (cheap a code weights ready) (few a code weights ready) c.settle.new.table
          c.settle.ensures.1,
    )
