-- `tables::edges::Compiled::via` meets its contract.
-- Where the rule applies, its word leads to a rank, and the cost is by the entry there.
use Rattle.std.proofs.Common.{sym, ◌∙◌, arith, rules}
use Rattle.words.proofs.Meaning.{cost-word}
use Rattle.distances.proofs.OneRule.{via-at, via-marked}
use Rattle.tables.specs.Abstraction.{graph_of}
use Rattle.tables.proofs.RuleCosts.{no-cost, leads-to}
use Rattle.tables.proofs.edges.Compiled.via.Goals as goal

pub returns-then-not-applies_word : goal.returns-then-not-applies_word
returns-then-not-applies_word c =
    let s = c.args.self.now in
    let p = c.requires.u_bound in
    sym (no-cost s.block.now s.code.now s.weights.now s.ready c.args.u c.args.word c.args.r p.1 p.2
    c.args.table.now (sym c.applies_word.ensures ∙ c.if-not-applies_word.true))

pub offset_bounds-table-v : goal.offset_bounds-table-v
offset_bounds-table-v c =
    let s = c.args.self.now in
    let p = c.requires.u_bound in
    let led = leads-to s.block.now s.code.now s.weights.now s.ready c.args.u c.args.word c.args.r p.1 p.2 _ _ _
    (sym c.applies_word.ensures ∙ c.if-not-applies_word.false)
    c.positions.ensures.0 c.step_word.ensures c.rank_word-v.ensures in
    let below = led.1 in
    search rules

pub bounds-table-v : goal.bounds-table-v
bounds-table-v c =
    let s = c.args.self.now in
    let p = c.requires.u_bound in
    let led = leads-to s.block.now s.code.now s.weights.now s.ready c.args.u c.args.word c.args.r p.1 p.2 _ _ _
    (sym c.applies_word.ensures ∙ c.if-not-applies_word.false)
    c.positions.ensures.0 c.step_word.ensures c.rank_word-v.ensures in
    let below = led.1 in
    search rules

pub returns-then-entry-lt-MARK : goal.returns-then-entry-lt-MARK
returns-then-entry-lt-MARK c =
    let s = c.args.self.now in
    let p = c.requires.u_bound in
    let led = leads-to s.block.now s.code.now s.weights.now s.ready c.args.u c.args.word c.args.r p.1 p.2 _ _ _
    (sym c.applies_word.ensures ∙ c.if-not-applies_word.false)
    c.positions.ensures.0 c.step_word.ensures c.rank_word-v.ensures in
    let told = via-at (graph_of s.block.now) c.args.table.now c.args.u c.args.r c.rank_word-v.result led.0 led.1
    c.if-entry-lt-MARK.true in
    let cost = cost-word s.ready.compiled c.args.r p.2 in
    omega (arith, told, cost, c.cost_word.ensures.0, c.from.ensures)

pub returns : goal.returns
returns c =
    let s = c.args.self.now in
    let p = c.requires.u_bound in
    let led = leads-to s.block.now s.code.now s.weights.now s.ready c.args.u c.args.word c.args.r p.1 p.2 _ _ _
    (sym c.applies_word.ensures ∙ c.if-not-applies_word.false)
    c.positions.ensures.0 c.step_word.ensures c.rank_word-v.ensures in
    sym (via-marked (graph_of s.block.now) c.args.table.now c.args.u c.args.r c.rank_word-v.result led.0 led.1
    c.if-entry-lt-MARK.false)
