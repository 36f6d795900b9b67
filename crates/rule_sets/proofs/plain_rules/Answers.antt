-- `rule_sets::plain_rules` meets its contract.
-- The test is the definition's.
use Rattle.std.proofs.Common.{rules}
use Rattle.rule_sets.specs.Plain.{plain_rule}
use Rattle.rule_sets.proofs.plain_rules.Goals as goal

pub returns : goal.returns
returns c = c.rules_where.ensures (plain_rule c.args.code.now) (λ r b l e. search rules)
