-- `frames::digits::digit` meets its contract.
-- Each arm's range says whether it is a digit, and of which value.
use mathlib.Core.Path.{sym}
use native.Mathlib.Omega.{arith}
use Rattle.frames.proofs.DigitLaws.{decimal, letter, below, between, above, digit-some, digit-none}
use Rattle.frames.proofs.digits.digit.Goals as goal

pub returns-in-48-to-57 : goal.returns-in-48-to-57
returns-in-48-to-57 c = sym (digit-some _ _ (decimal c.args.c (omega arith) (omega arith)))

pub returns-in-65-to-70 : goal.returns-in-65-to-70
returns-in-65-to-70 c = sym (digit-some _ _ (letter c.args.c (omega arith) (omega arith)))

pub returns-in_default : goal.returns-in_default
returns-in_default c = sym (digit-none _ (below c.args.c (omega arith)))

pub returns-in_default-2 : goal.returns-in_default-2
returns-in_default-2 c = sym (digit-none _ (between c.args.c (omega arith) (omega arith)))

pub returns-in_default-3 : goal.returns-in_default-3
returns-in_default-3 c = sym (digit-none _ (above c.args.c (omega arith)))
