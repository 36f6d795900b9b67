-- `figures::entry_figure` meets its contract.
-- Below the mark the entry is added to the cost; the mark makes no figure.
use native.Mathlib.Omega.{arith}
use Rattle.figures.proofs.FigureLaws.{figure-sum, figure-none}
use Rattle.figures.proofs.entry_figure.Goals as goal

pub returns-then-entry-lt-MARK : goal.returns-then-entry-lt-MARK
returns-then-entry-lt-MARK c = omega (arith, figure-sum)

pub returns : goal.returns
returns c = omega (arith, figure-none)
