-- `edge_ranks::single` meets its contract.
-- A label that is shifted to its position counts 16 to the power of that position.
use Rattle.words.proofs.WordDigits.{shifted}
use Rattle.edge_ranks.proofs.single.Goals as goal

pub returns : goal.returns
returns c = shifted c.args.label c.args.p c.requires.0 c.requires.1
