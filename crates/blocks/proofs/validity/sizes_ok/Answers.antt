-- `blocks::validity::sizes_ok` meets its contract.
use Rattle.std.proofs.Common.{rules}
use Rattle.blocks.specs.Validity.{sizes_ok}
use Rattle.blocks.proofs.validity.sizes_ok.Goals as goal

pub returns-then-rules-le64 : goal.returns-then-rules-le64
unfolding sizes_ok
returns-then-rules-le64 c = search rules

pub returns-else-rules-le64 : goal.returns-else-rules-le64
unfolding sizes_ok
returns-else-rules-le64 c = search rules
