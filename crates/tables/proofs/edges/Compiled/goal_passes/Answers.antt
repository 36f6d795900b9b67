-- `tables::edges::Compiled::goal_passes` meets its contract.
use Rattle.std.proofs.Common.{arith}
use Rattle.tables.proofs.SideTests.{goal-first, goal-second, goal-listed, zeros-listed}
use Rattle.tables.proofs.edges.Compiled.goal_passes.Goals as goal

pub find_edges-requires-clause-first_additive : goal.find_edges-requires-clause-first_additive
find_edges-requires-clause-first_additive c =
    let s = c.args.self.now in
    rw c.labels-labels.ensures.0 (goal-first s.block.now s.code.now s.weights.now s.ready c.args.g c.requires.1)

pub find_edges-requires-clause-second_additive : goal.find_edges-requires-clause-second_additive
find_edges-requires-clause-second_additive c =
    let s = c.args.self.now in
    rw c.labels-labels.ensures.0 (goal-second s.block.now s.code.now s.weights.now s.ready c.args.g c.requires.1)

pub returns-in-Some : goal.returns-in-Some
returns-in-Some c =
    let s = c.args.self.now in
    let lists = c.find_edges.new.lists in
    let count = c.in-Some.count in
    λ e.
    goal-listed s.block.now s.code.now s.weights.now s.ready c.args.table.now c.args.g c.requires.1 _ _ count
    (rw c.labels-labels.ensures.0 at c.in-Some.ensures.1)
    (zeros-listed c.args.table.now lists.sources count (omega arith) (c.zeros.ensures e))
