-- `filling::rank_words::unit` meets its contract.
-- 1 shifted to its position.
use mathlib.Core.Path.{◌∙◌}
use Prim.Native.Nat.{◌^◌}
use native.Mathlib.Nat.{one-mul}
use native.Mathlib.Omega.{arith}
use Rattle.words.proofs.WordDigits.{shifted}
use Rattle.filling.proofs.rank_words.unit.Goals as goal

pub returns : goal.returns
returns c = shifted 1 c.args.i (omega arith) c.requires ∙ one-mul (16 ^ c.args.i)
