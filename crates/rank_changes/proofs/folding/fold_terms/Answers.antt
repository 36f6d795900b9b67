-- `rank_changes::folding::fold_terms` meets its contract.
use Rattle.rank_changes.proofs.RowFolds.{folded-none, folded_then}
use Rattle.rank_changes.proofs.folding.fold_terms.Goals as goal

pub loop-i-init : goal.loop-i-init
loop-i-init c = folded-none _ _

pub loop-i-preserved : goal.loop-i-preserved
loop-i-preserved c = folded_then _ _ c.loop-i.invariant c.fold_term-folded.ensures

pub returns : goal.returns
returns c = c.loop-i.invariant
