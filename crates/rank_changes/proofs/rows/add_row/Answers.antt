-- `rank_changes::rows::add_row` meets its contract.
-- The closure tells the weights of the labels at position i.
use Rattle.std.proofs.Common.{rules}
use Rattle.rank_changes.specs.Rows.{entry}
use Rattle.rank_changes.proofs.rows.add_row.Goals as goal

pub returns : goal.returns
returns c = c.add_to_row.ensures (entry c.args.singles.now c.args.i) (λ x y l e. search rules)
