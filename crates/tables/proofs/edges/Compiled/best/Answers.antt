-- `tables::edges::Compiled::best` meets its contract.
use Rattle.std.proofs.Common.{◌≡◌, arith, ⊎_elim}
use Rattle.basics.proofs.Comparing.{below?}
use Rattle.distances.proofs.OneRule.{best-lower, best-keep}
use Rattle.tables.specs.Abstraction.{graph_of}
use Rattle.tables.proofs.edges.Compiled.best.Goals as goal

pub loop-r-preserved : goal.loop-r-preserved
loop-r-preserved c =
    let g = graph_of c.args.self.now.block.now in
    let t = c.args.table.now in
    let l = c.loop-r in
    let y = c.via.result in
    let least = c.min-least.ensures in
    ⊎_elim
    (λ h.
    let e : c.min-least.result ≡ y = omega arith in
    rw e (best-lower g t c.args.u l.r l.least y l.invariant c.via.ensures h))
    (λ h.
    let e : c.min-least.result ≡ l.least = omega arith in
    rw e (best-keep g t c.args.u l.r l.least y l.invariant c.via.ensures h))
    (below? y l.least)
