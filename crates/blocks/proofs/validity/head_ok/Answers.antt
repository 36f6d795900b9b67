-- `blocks::validity::head_ok` meets its contract.
-- At each return the tests that led there say what `head_ok` is.
use Rattle.std.proofs.Common.{sym, ap, ap₂, ◌∙◌, ℕ, ◌^◌, min, length, arith}
use lib.Dec.{leb}
use borrow.Author.Tests.{lt-leb, le-leb}
use Rattle.basics.proofs.Comparing.{capped-leb}
use Rattle.blocks.specs.Layout.{abstracts, positions, abstract_states}
use Rattle.blocks.specs.Validity.{head_ok}
use Rattle.blocks.proofs.Accepted.{sizes}
use Rattle.blocks.proofs.validity.head_ok.Goals as goal
use Rattle.blocks.proofs.validity.head_ok.Goals.{then-block-lt-HEAD_LENGTH-via-then-block-lt-HEAD_LENGTH}
use Rattle.blocks.proofs.validity.head_ok.Goals.{then-block-lt-HEAD_LENGTH-via-else-block-lt-HEAD_LENGTH+then-not-sizes_ok}

pub returns-then-block-lt-HEAD_LENGTH : goal.returns-then-block-lt-HEAD_LENGTH
unfolding head_ok
returns-then-block-lt-HEAD_LENGTH c =
    elim c.then-block-lt-HEAD_LENGTH.branch [
      | then-block-lt-HEAD_LENGTH-via-then-block-lt-HEAD_LENGTH w ↦
          simp (lt-leb _ _ w.if-block-lt-HEAD_LENGTH.true)
      | then-block-lt-HEAD_LENGTH-via-else-block-lt-HEAD_LENGTH+then-not-sizes_ok w ↦
          sym (rw (
            le-leb 5 (length c.args.block.now) w.if-block-lt-HEAD_LENGTH.false,
            sym w.sizes_ok.ensures ∙ w.if-not-sizes_ok.true,
          ))
    ]

pub power_within-states-requires : goal.power_within-states-requires
power_within-states-requires c =
    let s = sizes c.args.block.now (sym c.if-not-sizes_ok.ensures) in
    (omega arith, omega arith, omega arith)

pub returns : goal.returns
unfolding head_ok abstract_states
returns c =
    let b = c.args.block.now in
    ap (λ (x : ℕ). leb x 16384) c.power_within-states.ensures
    ∙ ap₂ (λ (k n : ℕ). leb (min (k ^ n) 16385) 16384) c.abstracts.ensures.0 c.positions.ensures.0
    ∙ capped-leb (abstracts b ^ positions b) 16384
    ∙ sym (rw (le-leb 5 (length b) c.if-block-lt-HEAD_LENGTH.false, sym c.if-not-sizes_ok.ensures))
