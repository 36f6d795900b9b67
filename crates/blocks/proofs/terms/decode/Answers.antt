-- `blocks::terms::decode` meets its contract.
-- Each arm's range says which case of `term_of` holds.
use mathlib.Core.Path.{sym}
use native.Mathlib.Omega.{arith}
use borrow.Author.Rules.{rules}
use Rattle.blocks.proofs.TermCases.{is-label, is-variable, is_dash_lem, is-refused}
use Rattle.blocks.proofs.terms.decode.Goals as goal

pub returns-in-255 : goal.returns-in-255
returns-in-255 c = sym (is_dash_lem _ c.in-255.is)

pub returns-in-0-to-15 : goal.returns-in-0-to-15
returns-in-0-to-15 c = sym (is-label c.args.byte (omega arith))

pub returns-in-16-to-31 : goal.returns-in-16-to-31
returns-in-16-to-31 c = sym (is-variable c.args.byte (omega arith) (omega arith))

pub returns-in_default : goal.returns-in_default
returns-in_default c = sym (is-refused c.args.byte (omega arith) (search rules))
