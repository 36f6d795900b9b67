-- `tables::edges::Compiled::rule_passes` meets its contract.
use Rattle.std.proofs.Common.{arith}
use Rattle.tables.proofs.SideTests.{rule-first, rule-second, rule-listed, edges-listed}
use Rattle.tables.proofs.edges.Compiled.rule_passes.Goals as goal

pub find_edges-requires-clause-first_additive : goal.find_edges-requires-clause-first_additive
find_edges-requires-clause-first_additive c =
    let s = c.args.self.now in
    rw c.labels-labels.ensures.0 (rule-first s.block.now s.code.now s.weights.now s.ready c.args.r c.requires.1)

pub find_edges-requires-clause-second_additive : goal.find_edges-requires-clause-second_additive
find_edges-requires-clause-second_additive c =
    let s = c.args.self.now in
    rw c.labels-labels.ensures.0 (rule-second s.block.now s.code.now s.weights.now s.ready c.args.r c.requires.1)

pub returns-in-Some : goal.returns-in-Some
returns-in-Some c =
    let s = c.args.self.now in
    let lists = c.find_edges.new.lists in
    let count = c.in-Some.count in
    λ e.
    rule-listed s.block.now s.code.now s.weights.now s.ready c.args.table.now c.args.r c.requires.1 _ _ count _
    (rw c.labels-labels.ensures.0 at c.in-Some.ensures.1) c.cost_word-cost.ensures.0
    (edges-listed c.args.table.now lists.sources count (omega arith) lists.targets _ (c.edges_pass.ensures e))
