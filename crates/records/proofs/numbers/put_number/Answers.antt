-- `records::numbers::put_number` meets its contract.
-- The part that is written holds the number's bytes.
use mathlib.Core.Path.{◌≡◌, sym, ap, ap₂, ◌∙◌}
use mathlib.Core.List.{List, [], ◌∷◌, ◌++◌, append_assoc}
use Prim.Native.Nat.{ℕ, ◌+◌, ◌-◌, ◌/◌, ◌%◌, ◌≤◌}
use native.Mathlib.Omega.{arith}
use lib.ListN.{length, drop, take}
use lib.Seq.{sets, sets-eq, drop-drop}
use borrow.Rule.Slice.PartMut.{put_mid}
use Rattle.std.proofs.Common.{w32}
use Rattle.std.specs.Int.{to_be_bytes}
use Rattle.records.specs.Records.{bytes_of}
use Rattle.records.proofs.numbers.put_number.Goals as goal

-- a number's bytes, the highest first
same : (x : ℕ) → to_be_bytes w32 x ≡ bytes_of x
same x =
    let a : x / 16777216 % 256 ≡ x / 256 / 256 / 256 % 256 = omega arith in
    let b : x / 65536 % 256 ≡ x / 256 / 256 % 256 = omega arith in
    ap₂ (λ (m n : ℕ). m ∷ n ∷ x / 256 % 256 ∷ x % 256 ∷ []) a b

-- what is written in a part
placed :
    (l : List ℕ) (at k : ℕ) (new : List ℕ) → at + 4 ≤ length l → k ≡ 4 → length new ≡ 4
    → put_mid at k l new ≡ sets l at new
placed l at k new h e f =
    let behind : drop k (drop at l) ≡ drop (at + length new) l =
    drop-drop k at l ∙ ap (λ (n : ℕ). drop (at + n) l) (e ∙ sym f) in
    ap (λ (rest : List ℕ). take at l ++ (new ++ rest)) behind
    ∙ sym (append_assoc (take at l) new (drop (at + length new) l))
    ∙ sym (sets-eq new l at (omega arith))

pub returns : goal.returns
returns c =
    let x = c.args.x in
    let written = c.copy_from_slice.ensures.after ∙ c.to_be_bytes.ensures ∙ same x in
    ap (put_mid c.args.at (c.args.at + 4 - c.args.at) c.args.bytes.now) written
    ∙ placed c.args.bytes.now c.args.at _ (bytes_of x) c.requires (omega arith) (omega arith)
