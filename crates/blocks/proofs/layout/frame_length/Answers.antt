-- `blocks::layout::frame_length` meets its contract.
-- Each answer is the definition's under the tests that led there.
use mathlib.Core.Path.{◌≡◌}
use native.Mathlib.Omega.{arith}
use lib.Dec.{leb}
use borrow.Author.Tests.{eq-eqb, ne_eqb, le-leb, lt-leb}
use Rattle.blocks.specs.Layout.{rules, frame_length}
use Rattle.blocks.proofs.layout.frame_length.Goals as goal

pub returns-then-i-eq0 : goal.returns-then-i-eq0
unfolding frame_length
returns-then-i-eq0 c = rw (eq-eqb c.args.i 0 c.if-i-eq0.true) c.labels.ensures.0

pub returns-then-i-rules : goal.returns-then-i-rules
unfolding frame_length
returns-then-i-rules c =
    let i = c.args.i in
    let among : leb i (rules c.args.block.now) ≡ _ = le-leb i (rules c.args.block.now) (omega arith) in
    rw (ne_eqb i 0 c.if-i-eq0.false, among) c.rule_width.ensures.0

pub returns : goal.returns
unfolding frame_length
returns c =
    let i = c.args.i in
    let behind : leb i (rules c.args.block.now) ≡ _ = lt-leb i (rules c.args.block.now) (omega arith) in
    rw (ne_eqb i 0 c.if-i-eq0.false, behind) c.positions.ensures.0
