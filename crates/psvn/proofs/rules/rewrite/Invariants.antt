-- `psvn::rules::rewrite` meets its contract.
-- The loop's invariant: the positions passed hold the new labels, the others what they held.
use Rattle.std.proofs.Common.{◌≡◌, ℕ, List, length}
use lib.Seq.{sets}
use Rattle.basics.specs.Lists.{tabulate}
use Rattle.blocks.specs.Terms.{term_of}
use Rattle.blocks.specs.Layout.{side_at}
use Rattle.psvn.specs.Rules.{given}
use Rattle.psvn.proofs.rules.rewrite.Given as goal

-- the label at one position of the new state
abbrev pub made : List ℕ → ℕ → ℕ → List ℕ → ℕ → ℕ
made block left right state k = given (length state) (side_at block left) state k (term_of (side_at block right k))

abbrev pub invariant-loop-i : goal.invariant-loop-i
invariant-loop-i l = l.out ≡ sets l.initial.out 0 (tabulate l.i (made l.block l.left l.right l.state))
