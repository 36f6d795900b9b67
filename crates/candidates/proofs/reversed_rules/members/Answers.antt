-- `candidates::reversed_rules::members` meets its contract.
-- What `&` leaves of a word is no more than the word.
use Prim.Native.Nat.{◌*◌, ◌/◌}
use lib.Bits.{bit_or, bit_xor, and_le_r}
use Rattle.candidates.proofs.reversed_rules.members.Goals as goal

pub overflow_sub-result : goal.overflow_sub-result
overflow_sub-result c =
    let other = bit_xor c.args.groups (c.args.g * 1229782938247303441) in
    let pairs = bit_or other (other / 2) in
    and_le_r (bit_or pairs (pairs / 4)) 1229782938247303441
