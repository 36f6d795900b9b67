-- `backward::choices::Reversal::choice_at` meets its contract.
-- By whether the right term is a dash, then by the left term decoded.
use Rattle.std.proofs.Common.{rules}
use Rattle.backward.specs.Choices.{choice}
use Rattle.backward.proofs.choices.Reversal.choice_at.Goals as goal

pub returns-then-is_dash : goal.returns-then-is_dash
unfolding choice
returns-then-is_dash c = search rules

pub returns-in-Label : goal.returns-in-Label
unfolding choice
returns-in-Label c = search rules

pub returns-in-Variable : goal.returns-in-Variable
unfolding choice
returns-in-Variable c = search rules

pub returns-in-Dash : goal.returns-in-Dash
unfolding choice
returns-in-Dash c = search rules
