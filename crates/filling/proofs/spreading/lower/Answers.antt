-- `filling::spreading::lower` meets its contract.
-- An entry above the cost by a rule leaves room for that cost, and the one write keeps the table good; the queue's
-- functions keep the length of its array.
use native.Mathlib.Omega.{arith}
use Rattle.blocks.specs.Layout.{rule_at, cost_of}
use Rattle.distances.specs.Filling.{Cheap}
use Rattle.distances.proofs.Writing.{good-write}
use Rattle.tables.specs.Abstraction.{graph_of}
use Rattle.filling.proofs.spreading.lower.Goals as goal

pub overflow_add-new : goal.overflow_add-new
overflow_add-new c =
    omega (arith, c.requires.cost_bound, c.slice_known-1.given c.args.u)

pub returns : goal.returns
unfolding cost_of
returns c =
    let a = c.args in
    let p = c.requires.lowering.0 in
    let b = a.block.now in
    let top = c.slice_known-1.given a.u in
    let cheap : Cheap (graph_of b) = λ r l. omega (arith, c.type_inv.block (rule_at b r)) in
    good-write (graph_of b) a.table.now p.good p.small cheap a.u a.edge.rule a.edge.to _
    p.u_in p.r_in p.edge p.v_in (omega (arith, c.requires.cost_bound, top)) (omega arith)
    (omega (arith, c.requires.cost_bound))
