-- `frames::lines::encode_line` meets its contract.
use mathlib.Core.Path.{◌≡◌, sym, ap, ap₂, ◌∙◌}
use mathlib.Core.List.{List, [], ◌∷◌}
use Prim.Native.Nat.{ℕ, suc, ◌+◌, ◌*◌, ◌≤◌}
use native.Mathlib.Omega.{arith}
use lib.ListN.{length, set, drop, length-set, drop_of_length-le}
use lib.Seq.{sets}
use Rattle.basics.proofs.Lists.{sets-front}
use Rattle.frames.specs.Lines.{line_feed, line_of}
use Rattle.frames.proofs.PairLaws.{byte-apart, line-length}
use Rattle.frames.proofs.lines.encode_line.Goals as goal

-- behind the bytes the line feed alone is left
left : (bytes : List ℕ) (i : ℕ) → length bytes ≤ i → line_of (drop i bytes) ≡ line_feed ∷ []
left bytes i h = ap line_of (drop_of_length-le bytes h)

pub bounds-out-i : goal.bounds-out-i
bounds-out-i c = omega (arith, line-length c.args.bytes.now)

pub bounds-out-i-in-loop-i : goal.bounds-out-i-in-loop-i
bounds-out-i-in-loop-i c =
    omega (arith, line-length c.args.bytes.now, length-set c.loop-i.out (2 * c.loop-i.i) c.digit_of.result)

pub loop-i-preserved : goal.loop-i-preserved
loop-i-preserved c =
    let loop = c.loop-i in
    let at = 2 * loop.i in
    let x = c.digit_of.result in
    let y = c.digit_of-in-loop-i.result in
    -- the digits of the first of the bytes that are left, in front of those of the others
    let next = byte-apart c.args.bytes.now loop.i c.loop-i-test.true in
    let rest = line_of (drop (loop.i + 1) c.args.bytes.now) in
    let digits = ap₂ (λ (p q : ℕ). p ∷ q ∷ rest) c.digit_of.ensures c.digit_of-in-loop-i.ensures in
    let first : at + 1 ≡ suc at = omega arith in
    let second : 2 * (loop.i + 1) ≡ suc (suc at) = omega arith in
    ap₂ (λ (k j : ℕ). sets (set (set loop.out at x) k y) j rest) first second
    ∙ ap (sets loop.out at) (digits ∙ sym next)
    ∙ loop.invariant

pub bounds-out-end : goal.bounds-out-end
bounds-out-end c = omega (arith, line-length c.args.bytes.now)

pub returns : goal.returns
returns c =
    let bytes = c.args.bytes.now in
    let loop = c.loop-i in
    let l = left bytes loop.i c.loop-i-test.false in
    let end : 2 * length bytes ≡ 2 * loop.i = omega arith in (
      sym (line-length bytes),
      ap (λ (k : ℕ). set loop.out k line_feed) end
          ∙ ap (sets loop.out (2 * loop.i)) (sym l)
          ∙ loop.invariant
          ∙ sets-front c.args.out.now (line_of bytes) c.requires,
    )
