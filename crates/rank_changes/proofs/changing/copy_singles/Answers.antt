-- `rank_changes::changing::copy_singles` meets its contract.
use Rattle.std.proofs.Common.{◌≡◌, ℕ, ◌+◌, ◌-◌, ◌≤◌, List, ◌++◌, length, get_or, drop, ap, ◌∙◌, arith}
use Rattle.std.proofs.Common.{length-append, length-drop, get_or-drop}
use Rattle.std.proofs.Math.ListN.{get_or-append}
use Rattle.std.proofs.Math.Seq.{get_or-append_right}
use Rattle.rank_changes.specs.Changes.{SinglesCopied}
use Rattle.rank_changes.proofs.changing.copy_singles.Goals as goal

-- the weights in front of what stood behind them
copied :
    (singles changes : List ℕ) → length singles ≡ 256 → 256 ≤ length changes
    → SinglesCopied singles changes (singles ++ drop 256 changes)
copied singles changes long room =
    record {
      single = λ k l. get_or-append singles (drop 256 changes) 0 k (omega arith);
      changes = record {
        len = omega (arith, length-append singles (drop 256 changes), length-drop 256 changes);
        before = λ j l. absurd (omega arith);
        behind = λ j l.
            let there : 256 + (j - length singles) ≡ j = omega arith in
            get_or-append_right singles (drop 256 changes) j 0 (omega arith)
            ∙ get_or-drop 256 changes (j - length singles) 0 ∙ ap (λ (k : ℕ). get_or changes k 0) there;
      };
    }

pub returns : goal.returns
returns c =
    rw c.copy_from_slice.ensures.after (copied c.args.singles.now c.args.changes.now (omega arith) (omega arith))
