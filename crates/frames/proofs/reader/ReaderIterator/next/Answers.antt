-- `frames::reader::ReaderIterator::next` meets its contract.
-- A line has a character, so that fewer are left behind it.
use mathlib.Core.Path.{ap}
use native.Mathlib.Omega.{arith}
use lib.ListN.{length}
use Rattle.frames.specs.declared.lines.Line.{Line}
use Rattle.frames.proofs.LineLaws.{line-some}
use Rattle.frames.proofs.reader.ReaderIterator.next.Goals as goal

pub returns-then-self-clause-goes : goal.returns-then-self-clause-goes
returns-then-self-clause-goes c =
    let s = c.args.self.now in
    let more = line-some s.text.now s.at c.if-self.true in
    let next = ap (λ (l : Line). l.next) c.next_line.ensures.0 in
    let same = ap (λ (t : _). length t.now) c.next_line.ensures.1 in
    let at = c.next_line.ensures.2 in
    record { on = λ f. (tt, tt, omega arith); keeps = tt; rests = λ f. tt }
