-- `blocks::validity::terms_ok` meets its contract.
use Rattle.std.proofs.Common.{rules}
use Rattle.blocks.specs.Validity.{terms_ok}
use Rattle.blocks.proofs.validity.terms_ok.Goals as goal

pub returns-then-rule_terms_ok : goal.returns-then-rule_terms_ok
unfolding terms_ok
returns-then-rule_terms_ok c = search rules

pub returns-else-rule_terms_ok : goal.returns-else-rule_terms_ok
unfolding terms_ok
returns-else-rule_terms_ok c = search rules
