-- `frames::lines::decode_line` meets its contract.
use mathlib.Core.Path.{◌≡◌, sym, ap, ap₂, ◌∙◌}
use mathlib.Core.List.{List, [], ◌∷◌}
use Prim.Native.Nat.{ℕ, ◌+◌, ◌*◌, ◌/◌, ◌<◌, ◌≤◌}
use native.Mathlib.Omega.{arith}
use native.Mathlib.Numerals.{add-one}
use lib.ListN.{length, get_or, set, drop, length-drop}
use lib.Seq.{sets}
use Rattle.std.specs.Simd.{first_chunks}
use Rattle.basics.proofs.Lists.{sets-front}
use Rattle.frames.specs.Lines.{digit_value, line_bytes}
use Rattle.frames.proofs.PairLaws.{half_length, pair-bytes, pair-here, no_bytes}
use Rattle.frames.proofs.lines.decode_line.Goals as goal

module _ (l : List ℕ) (pairs : List (List ℕ)) (is : pairs ≡ first_chunks 2 (length l / 2) l) (i : ℕ) where
  -- the byte of this pair, in front of those that are left
  pair :
      (b : ℕ) → i < length l / 2
      → b ≡ 16 * digit_value (get_or (get_or pairs i []) 0 0) + digit_value (get_or (get_or pairs i []) 1 0)
      → line_bytes (drop (2 * i) l) ≡ b ∷ line_bytes (drop (2 * (i + 1)) l)
  pair b h e =
      let here = ap (λ (p : List (List ℕ)). get_or p i []) is ∙ pair-here l (length l / 2) i (omega arith) h in
      let next : 2 * i + 2 ≡ 2 * (i + 1) = omega arith in
      pair-bytes l (2 * i) (omega arith)
      ∙ ap₂ (λ (x : ℕ) (k : ℕ). x ∷ line_bytes (drop k l))
      (sym (e ∙ ap (λ (p : List ℕ). 16 * digit_value (get_or p 0 0) + digit_value (get_or p 1 0)) here)) next

-- no byte is left
none : (l : List ℕ) (i : ℕ) → length l / 2 ≤ i → line_bytes (drop (2 * i) l) ≡ []
none l i h = no_bytes (drop (2 * i) l) (omega (arith, length-drop (2 * i) l))

pub bounds-out-i : goal.bounds-out-i
bounds-out-i c =
    omega (arith, half_length c.args.line.now, c.as_chunks.ensures.front_len)

pub loop-i-preserved : goal.loop-i-preserved
loop-i-preserved c =
    let l = c.args.line.now in
    let i = c.loop-i.i in
    let out = c.loop-i.out in
    let b = c.pair_byte.result in
    let p = pair l _ c.as_chunks.ensures.front i b (omega (arith, c.as_chunks.ensures.front_len)) c.pair_byte.ensures in
    ap (λ (k : ℕ). sets (set out i b) k (line_bytes (drop (2 * (i + 1)) l))) (add-one i)
    ∙ ap (sets out i) (sym p)
    ∙ c.loop-i.invariant

pub returns : goal.returns
returns c =
    let l = c.args.line.now in
    let half = half_length l in
    let n = none l c.loop-i.i (omega (arith, c.as_chunks.ensures.front_len)) in (
      omega (arith, half, c.as_chunks.ensures.front_len),
      ap (sets c.loop-i.out c.loop-i.i) (sym n) ∙ c.loop-i.invariant
          ∙ sets-front c.args.out.now (line_bytes l) c.requires,
    )
