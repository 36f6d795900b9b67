-- `filling::rank_words::RankedBlock::sweep` meets its contract.
use Rattle.std.proofs.Common.{◌<◌, arith, get_or}
use Rattle.distances.proofs.Sweeping.{sweep-keep, sweep-write, good-best, sweep-all}
use Rattle.tables.specs.Abstraction.{graph_of}
use Rattle.tables.proofs.WordEdges.{cheap}
use Rattle.filling.proofs.rank_words.RankedBlock.sweep.Goals as goal
use Rattle.filling.proofs.rank_words.RankedBlock.sweep.Goals.{then-least-from, else-least-from}

pub loop-u-preserved : goal.loop-u-preserved
loop-u-preserved c =
    let l = c.loop-u in
    let s = c.args.self.now.compiled in
    let g = graph_of s.block.now in
    let t = c.args.table.now in
    let x = c.best-least.result in
    let costs = cheap s.block.now s.code.now s.weights.now s.ready in
    let few = l.invariant.0 in
    let i = l.invariant.1 in
    elim c.if-least-from.branch [
      | then-least-from w ↦
          let less : x < get_or l.table l.u 0 = omega (arith, w.if-least-from.true, c.from.ensures) in
          rw (w.table-is, w.fell-is) (
            few,
            sweep-write g t l.table l.fell l.u x i
                (good-best g few costs l.table l.u x i.good (omega arith) c.best-least.ensures less (i.entries l.u))
                less,
          )
      | else-least-from w ↦
          rw (w.table-is, w.fell-is) (
            few,
            sweep-keep g t l.table l.fell l.u x i c.best-least.ensures
                (omega (arith, w.if-least-from.false, c.from.ensures)),
          )
    ]

pub returns : goal.returns
returns c =
    let s = c.args.self.now.compiled in
    let l = c.loop-u in
    sweep-all (graph_of s.block.now) l.invariant.0 (cheap s.block.now s.code.now s.weights.now s.ready)
    c.args.table.now l.table l.fell l.u l.invariant.1 (omega (arith, l.invariant.1.good.len))
