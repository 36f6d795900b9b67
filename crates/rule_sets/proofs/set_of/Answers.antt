-- `rule_sets::set_of` meets its contract.
-- The test is the definition's.
use Rattle.std.proofs.Common.{rules}
use Rattle.rule_sets.specs.Agreeing.{agrees_at}
use Rattle.rule_sets.proofs.set_of.Goals as goal

pub returns : goal.returns
returns c =
    c.rules_where.ensures (λ r. agrees_at c.args.code.now r c.args.i c.args.x) (λ r b l e. search rules)
