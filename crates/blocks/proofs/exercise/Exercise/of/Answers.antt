-- `blocks::exercise::Exercise::of` meets its contract.
use Rattle.std.proofs.Common.{sym}
use Rattle.blocks.proofs.Accepted.{accepted-valid}
use Rattle.blocks.proofs.exercise.Exercise.of.Goals as goal

pub new-requires : goal.new-requires
new-requires c = accepted-valid c.args.bytes.now (sym c.in_ok-check.ensures)
