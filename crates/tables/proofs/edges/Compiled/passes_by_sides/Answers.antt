-- `tables::edges::Compiled::passes_by_sides` meets its contract.
use Rattle.tables.proofs.SideTests.{sides-pass}
use Rattle.tables.proofs.edges.Compiled.passes_by_sides.Goals as goal

pub returns-then-goals_pass : goal.returns-then-goals_pass
returns-then-goals_pass c =
    λ e.
    sides-pass c.args.self.now.block.now c.args.table.now (c.goals_pass.ensures c.if-goals_pass.true)
    (c.rules_pass.ensures e)
