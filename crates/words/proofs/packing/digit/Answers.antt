-- `words::packing::digit` meets its contract.
-- Shifting by four bits for each position is division by a power of 16.
use Rattle.words.proofs.WordDigits.{digit_shift}
use Rattle.std.proofs.Common.{rules}
use Rattle.words.proofs.packing.digit.Goals as goal

pub returns : goal.returns
returns c = (digit_shift _ _, search rules)
