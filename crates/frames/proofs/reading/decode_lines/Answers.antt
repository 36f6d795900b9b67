-- `frames::reading::decode_lines` meets its contract.
use mathlib.Core.Path.{◌≡◌, refl, sym, ap, ◌∙◌}
use mathlib.Core.List.{List, [], ◌∷◌, ◌++◌, flat_map, append_assoc, append-nil}
use Prim.Native.Nat.{ℕ}
use native.Mathlib.Omega.{arith}
use borrow.Author.Rules.{rules}
use lib.ListN.{length, length-append, length-drop}
use Rattle.std.proofs.lemmas.List.{nil_from_length}
use Rattle.std.proofs.lemmas.List.Sorted.{answers_always}
use Rattle.basics.specs.Lists.{at_front}
use Rattle.basics.proofs.Lists.{front-behind, rest-whole}
use Rattle.frames.specs.Lines.{lines_of, line_bytes}
use Rattle.frames.specs.Reading.{block_of}
use Rattle.frames.proofs.LineLaws.{is_feed, lines-cut}
use Rattle.frames.proofs.reading.decode_lines.Goals as goal

-- all bytes are those that are written, those of this line, and the rest
all_bytes :
    (front line : List ℕ) (x : List ℕ) (rest all : List ℕ) → lines_of x ≡ line ∷ lines_of rest
    → front ++ block_of (lines_of x) ≡ all → (front ++ line_bytes line) ++ block_of (lines_of rest) ≡ all
unfolding flat_map
all_bytes front line x rest all e h =
    append_assoc front (line_bytes line) (block_of (lines_of rest))
    ∙ ap (λ (ls : List (List ℕ)). front ++ block_of ls) (sym e)
    ∙ h

pub decode_line-to-requires : goal.decode_line-to-requires
decode_line-to-requires c =
    let s = c.in-Some.ensures.steps in
    let l = c.loop-line in
    let front = l.invariant.0 in
    let line = c.in-Some.line.now in
    let at = s.1.2 is_feed (answers_always _ _ _ (λ f a r g h. search rules)) in
    let cut = lines-cut l.line-iterator.rest.now line c.next.new.self.rest.now s.1.0 s.0 s.2 s.1.1 at.1 in
    let bytes = block_of (lines_of c.args.text.now) in
    let all = all_bytes front line l.line-iterator.rest.now c.next.new.self.rest.now bytes cut l.invariant.3 in
    omega (
      arith,
      l.invariant.1,
      ap length all,
      length-append (front ++ line_bytes line) (block_of (lines_of c.next.new.self.rest.now)),
      length-append front (line_bytes line),
      ap length (rest-whole l.to l.out),
      length-drop l.to l.out,
    )

pub loop-line-preserved : goal.loop-line-preserved
loop-line-preserved c =
    let s = c.in-Some.ensures.steps in
    let l = c.loop-line in
    let front = l.invariant.0 in
    let line = c.in-Some.line.now in
    let at = s.1.2 is_feed (answers_always _ _ _ (λ f a r g h. search rules)) in
    let cut = lines-cut l.line-iterator.rest.now line c.next.new.self.rest.now s.1.0 s.0 s.2 s.1.1 at.1 in
    let call = c.decode_line-to in (
      front ++ line_bytes line,
      omega (arith, call.ensures.0, l.invariant.1, length-append front (line_bytes line)),
      front-behind front (line_bytes line) c.args.out.now l.invariant.1 l.invariant.2 refl call.ensures.1,
      all_bytes front line l.line-iterator.rest.now c.next.new.self.rest.now _ cut l.invariant.3,
    )

pub returns : goal.returns
unfolding flat_map
returns c =
    let l = c.loop-line in
    let front = l.invariant.0 in
    let none : l.line-iterator.rest.now ≡ [] = nil_from_length _ c.in-None.ensures.steps.0 in
    let all =
    sym (append-nil front)
    ∙ ap (λ (x : List ℕ). front ++ block_of (lines_of x)) (sym none)
    ∙ l.invariant.3 in (
      l.invariant.1 ∙ ap length all,
      l.invariant.2 ∙ ap (λ (x : List ℕ). at_front x c.args.out.now) all,
    )
