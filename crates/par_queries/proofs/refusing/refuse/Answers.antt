-- `par_queries::refusing::refuse` meets its contract.
-- The two bytes are FF and the number, and their line is five characters long.
use mathlib.Core.Path.{ap}
use native.Mathlib.Omega.{arith}
use lib.ListN.{length}
use Rattle.refusals.specs.Refusals.{refusal_number}
use Rattle.frames.specs.Lines.{line_of}
use Rattle.frames.proofs.PairLaws.{line-length}
use Rattle.records.specs.Records.{refusal_bytes}
use Rattle.records.proofs.RecordLaws.{written-fits, written-taken}
use Rattle.par_queries.proofs.PrintedLines.{line_of_lem}
use Rattle.par_queries.proofs.refusing.refuse.Goals as goal

pub slice_bounds-bytes-end : goal.slice_bounds-bytes-end
slice_bounds-bytes-end c = omega (arith, written-fits c.put_refusal-count.ensures, c.put_refusal-count.auto.out)

pub slice_bounds-encode_line-end : goal.slice_bounds-encode_line-end
slice_bounds-encode_line-end c =
    let w = c.put_refusal-count.ensures in
    omega (arith, ap length (written-taken w), w.told)

pub encode_line-requires : goal.encode_line-requires
encode_line-requires c =
    let taken = written-taken c.put_refusal-count.ensures in
    omega (arith, ap length (ap line_of taken), line-length (refusal_bytes (refusal_number c.args.refusal)), c.requires)

pub returns : goal.returns
returns c = line_of_lem c.encode_line.ensures (written-taken c.put_refusal-count.ensures)
