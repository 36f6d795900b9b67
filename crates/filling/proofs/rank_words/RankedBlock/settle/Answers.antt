-- `filling::rank_words::RankedBlock::settle` meets its contract.
use Rattle.std.proofs.Common.{arith}
use Rattle.distances.proofs.Exactness.{exact}
use Rattle.tables.specs.Abstraction.{graph_of}
use Rattle.filling.proofs.rank_words.RankedBlock.settle.Goals as goal

pub returns-then-passes_by_sides : goal.returns-then-passes_by_sides
returns-then-passes_by_sides c = (
  c.requires,
  exact (graph_of c.args.self.now.compiled.block.now) c.args.table.now c.requires
      (c.passes_by_sides.ensures c.if-passes_by_sides.true) (λ u. omega (arith, c.slice_known-1.given u)),
)

pub returns-then-not-sweep : goal.returns-then-not-sweep
returns-then-not-sweep c =
    let s = c.sweep.ensures in (
      s.good,
      exact (graph_of c.args.self.now.compiled.block.now) c.sweep.new.table s.good (s.passes c.if-not-sweep.true)
          (λ u. omega (arith, c.type_inv.table u)),
    )
