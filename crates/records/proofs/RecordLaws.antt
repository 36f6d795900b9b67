-- What is written into the part of a list behind what is written stands behind that (`written_behind`); a plan within
-- fewer steps is within more (`found-more`); what is written lies in its buffer, which keeps its length, and can be
-- taken from it (`written-fits`, `written-length`, `written-taken`).
-- The functions that answer a query, and those that print records, rest on these.
use mathlib.Core.Path.{◌≡◌, ap, ◌∙◌}
use mathlib.Core.List.{List, ◌++◌}
use Prim.Native.Nat.{ℕ, ◌+◌, ◌-◌, ◌≤◌}
use native.Mathlib.Omega.{arith}
use lib.ListN.{length, take, drop, length-append, length-drop}
use borrow.Rule.Slice.PartMut.{mid_of, put_mid}
use Rattle.basics.proofs.Lists.{front_fits, front-taken, front-behind}
use Rattle.search.specs.Parts.{FoundWithin}
use Rattle.search.specs.declared.running.Ending.{Ending}
use Rattle.search.specs.declared.running.Ending.TheVariants.{Found, NoPlan, Spent}
use Rattle.records.specs.Records.{Written}

-- what is written behind what is written, in the part of the list that stands there
pub written_behind :
    {front bytes old whole mid : List ℕ} {to k n : ℕ} → Written front old to whole → k ≡ length whole - to
    → Written bytes (mid_of to k whole) n mid → Written (front ++ bytes) old (to + n) (put_mid to k whole mid)
written_behind {front} {bytes} {old} f e w =
    record {
      told = omega (arith, f.told, w.told, length-append front bytes);
      front = front-behind front bytes old f.told f.front e w.front;
    }

pub found-more : (d e : ℕ) → d ≤ e → (x : Ending) → FoundWithin d x → FoundWithin e x
found-more d e l (Found plan) h = omega arith
found-more d e l (NoPlan visits) h = tt
found-more d e l (Spent visits) h = tt

pub written-fits : {bytes old new : List ℕ} {n : ℕ} → Written bytes old n new → n ≤ length new
written-fits {bytes} {old} w =
    omega (arith, w.told, ap length w.front, front_fits bytes old)

-- and where it fits, the buffer keeps its length
pub written-length : {bytes old new : List ℕ} {n : ℕ} → Written bytes old n new → n ≤ length old → length new
    ≡ length old
written-length {bytes} {old} w l =
    let rest = drop (length bytes) old in
    omega (arith, w.told, ap length w.front, length-append bytes rest, length-drop (length bytes) old)

pub written-taken : {bytes old new : List ℕ} {n : ℕ} → Written bytes old n new → take n new ≡ bytes
written-taken {bytes} {old} {n = n} w = ap (take n) w.front ∙ front-taken bytes old n w.told
