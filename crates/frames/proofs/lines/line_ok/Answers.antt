-- `frames::lines::line_ok` meets its contract.
-- The last character is the line feed, and those before it are digits, even in number.
use mathlib.Core.Path.{◌≡◌, sym, ap, ◌∙◌, refl, ap₂}
use mathlib.Core.Bool.{Bool, true, false, ◌&&◌}
use mathlib.Core.List.{List, [], ◌∷◌, ◌++◌}
use Prim.Native.Nat.{ℕ, ◌%◌}
use lib.Dec.{eqb}
use lib.ListN.{length}
use borrow.Author.Tests.{eq-eqb, ne_eqb}
use Rattle.std.specs.List.{list_all}
use Rattle.basics.proofs.Truth.{true-false}
use Rattle.frames.specs.Lines.{line_feed, is_digit, line_ok}
use Rattle.frames.proofs.PairLaws.{ended_ok}
use Rattle.frames.proofs.lines.line_ok.Goals.{then-last-eq-LINE_FEED, else-last-eq-LINE_FEED}
use Rattle.frames.proofs.lines.line_ok.Goals as goal

-- a line that ends so is as good as its tests
tested :
    (l digits : List ℕ) (last : ℕ) → l ≡ digits ++ (last ∷ []) → (feed even : Bool) → eqb last line_feed ≡ feed
    → eqb (length digits % 2) 0 ≡ even → (feed && (even && list_all is_digit digits)) ≡ line_ok l
tested l digits last e feed even p q =
    ap₂ (λ (f n : Bool). f && (n && list_all is_digit digits)) (sym p) (sym q)
    ∙ sym (ap line_ok e ∙ ended_ok digits last)

pub returns-then-digits-eq0 : goal.returns-then-digits-eq0
returns-then-digits-eq0 c =
    let l = c.args.line.now in
    let e = c.in-Some.ensures.cases.0 in
    elim c.if-last-eq-LINE_FEED.branch [
      | then-last-eq-LINE_FEED w ↦
          c.all_digits.ensures
          ∙ tested l _ _ e true true (eq-eqb _ _ w.if-last-eq-LINE_FEED.true) (sym w.value-is ∙ c.if-digits-eq0.true)
      | else-last-eq-LINE_FEED w ↦
          absurd (true-false c.if-digits-eq0.true (w.value-is ∙ ne_eqb _ _ w.if-last-eq-LINE_FEED.false))
    ]

pub returns-else-digits-eq0 : goal.returns-else-digits-eq0
returns-else-digits-eq0 c =
    let l = c.args.line.now in
    let e = c.in-Some.ensures.cases.0 in
    elim c.if-last-eq-LINE_FEED.branch [
      | then-last-eq-LINE_FEED w ↦
          c.if-digits-eq0.false
          ∙ tested l _ _ e true false (eq-eqb _ _ w.if-last-eq-LINE_FEED.true) (sym w.value-is ∙ c.if-digits-eq0.false)
      | else-last-eq-LINE_FEED w ↦
          w.value-is
          ∙ ne_eqb _ _ w.if-last-eq-LINE_FEED.false
          ∙ tested l _ _ e false _ (ne_eqb _ _ w.if-last-eq-LINE_FEED.false) refl
    ]
