-- `frames::lines::line_end` meets its contract.
-- The rest of the text begins at the place, and its first line ends behind its first line feed.
use mathlib.Core.Path.{◌≡◌, sym, ap, ◌∙◌}
use mathlib.Core.List.{List}
use Prim.Native.Nat.{ℕ, ◌-◌}
use native.Mathlib.Omega.{arith}
use lib.Dec.{eqb}
use lib.ListN.{length, take, drop, length-drop}
use lib.Seq.{take_all}
use Rattle.std.proofs.Common.{Option, min}
use Rattle.std.specs.List.{position}
use Rattle.frames.specs.Lines.{line_feed}
use Rattle.frames.specs.Places.{line_from}
use Rattle.std.proofs.lemmas.List.{drop_min}
use Rattle.frames.proofs.LineLaws.{up_to, first-long}
use Rattle.frames.proofs.lines.line_end.Goals as goal

-- what is found in the rest is told of the line
told :
    (x : List ℕ) (at m : ℕ) (found : Option ℕ) → m ≡ min at (length x)
    → found ≡ position (λ (c : ℕ). eqb c line_feed) (take (length x - m) (drop m x))
    → up_to (take (length x - m) (drop m x)) found ≡ length (line_from x at)
unfolding line_from
told x at m found e f =
    let all : take (length x - m) (drop m x) ≡ drop at x =
    take_all (length x - m) (drop m x) (omega (arith, length-drop m x)) ∙ ap (λ (k : ℕ). drop k x) e ∙ drop_min at x in
    ap (up_to (take (length x - m) (drop m x))) f
    ∙ ap (λ (y : List ℕ). up_to y (position (λ (c : ℕ). eqb c line_feed) y)) all
    ∙ sym (first-long (drop at x))

pub returns-in-Some : goal.returns-in-Some
returns-in-Some c = omega (arith, told c.args.text.now c.args.at _ _ c.min.ensures c.in-Some.ensures)

pub returns-in-None : goal.returns-in-None
returns-in-None c = omega (arith, told c.args.text.now c.args.at _ _ c.min.ensures c.in-None.ensures)
