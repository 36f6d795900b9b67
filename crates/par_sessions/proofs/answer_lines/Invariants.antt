-- Where the loop stands, the answer lines of the query lines that were passed stand at the front of the buffer, and the
-- writer got them, unless a write failed.
use Rattle.std.proofs.Common.{length, ◌-◌}
use Rattle.par_outputs.specs.Output.{answers_from}
use Rattle.par_sessions.proofs.PrintedSoFar.{Printing}
use Rattle.par_sessions.proofs.answer_lines.Given as goal

abbrev pub invariant-loop-at : goal.invariant-loop-at
invariant-loop-at g l =
    Printing (answers_from l.block l.input l.from) (answers_from l.block l.input l.at) l.fn.output l.output l.to
    l.outcome (g.W.Write.contents l.fn.writer) (g.W.Write.contents l.writer)

abbrev pub decreases-loop-at : goal.decreases-loop-at
decreases-loop-at g l = length l.input - l.at
