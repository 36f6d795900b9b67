-- `rule_sets::place_sets` meets its contract.
-- The set of plain rules is written behind those of the labels, which stay right: no side is written.
use native.Mathlib.Omega.{arith}
use Rattle.basics.proofs.Parts.{outside_set}
use Rattle.words.specs.Code.{plain_place}
use Rattle.rule_sets.proofs.KeptRules.{sets-made}
use borrow.Author.Rules.{rules}
use Rattle.rule_sets.proofs.place_sets.Goals as goal

pub returns : goal.returns
returns c =
    let (indexed, kept) = c.place_label_sets.ensures in
    let plain = c.plain_rules.result in (
      sets-made c.args.rules c.args.n plain (search rules) c.requires.0 c.requires.1 indexed
          c.plain_rules.ensures,
      outside_set plain_place plain (omega arith) (omega arith) kept,
    )
