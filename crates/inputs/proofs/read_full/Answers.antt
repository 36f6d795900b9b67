-- `inputs::read_full` meets its contract.
-- What one read more gives stands behind what was read.
use Rattle.std.proofs.Common.{◌≡◌, ℕ, ◌+◌, ◌-◌, ◌≤◌, List, ◌++◌, length, take, drop, rules, arith, ap, sym, subst, ◌∙◌}
use Rattle.std.proofs.Math.Seq.{take-add, take-append-le, drop_at, length-take-le}
use Rattle.std.proofs.KnownBytes.{Consumes-trans}
use Rattle.std.proofs.lemmas.Slice.{take-put_mid_below}
use Rattle.std.specs.Io.KnownBytes.{Consumes}
use borrow.Rule.Slice.PartMut.{put_mid, post_of}
use Rattle.inputs.proofs.read_full.Goals as goal

-- the front of a list in which ys were written from a place on, n bytes behind that place
front_behind :
    (a k n : ℕ) (xs ys : List ℕ) → a ≤ length xs → n ≤ length ys
    → take (a + n) (put_mid a k xs ys) ≡ take a xs ++ take n ys
front_behind a k n xs ys within fits =
    let whole = put_mid a k xs ys in
    take-add a n whole
    ∙ ap (λ (l : List ℕ). l ++ take n (drop a whole)) (take-put_mid_below a k xs ys a (omega arith) within)
    ∙ ap
    (λ (l : List ℕ). take a xs ++ take n l)
    (drop_at (take a xs) (ys ++ post_of a k xs) a (length-take-le a xs within))
    ∙ ap (λ (l : List ℕ). take a xs ++ l) (take-append-le n ys (post_of a k xs) fits)

pub loop-read-preserved : goal.loop-read-preserved
loop-read-preserved g c =
    let l = c.loop-read in
    let room = length l.buffer - l.read in
    let joined = front_behind l.read room c.in-Ok.count l.buffer c.read.new.buf l.invariant.0 c.in-Ok.ensures.bound.0 in
    let consumed = Consumes-trans _ _ _ _ _ l.invariant.1 c.in-Ok.ensures.bytes.0 in
    (search rules, subst (Consumes _ _) (sym joined) consumed)
