-- `search::scanning::note` meets its contract.
-- A figure that is no lower changes nothing, whether or not the state is on the path.
use mathlib.Core.Path.{◌≡◌, refl, sym, ap, ◌∙◌}
use mathlib.Core.Bool.{Bool, cond}
use mathlib.Core.List.{List}
use Prim.Native.Nat.{ℕ}
use native.Mathlib.Omega.{arith}
use Rattle.words.specs.Sides.{step_word}
use Rattle.tallies.specs.Tallies.{overshot_by}
use Rattle.search.specs.declared.run.Run.{Run}
use Rattle.search.specs.Run.{state_at}
use Rattle.search.specs.Parts.{noted}
use Rattle.search.specs.OnWords.{on_path}
use Rattle.search.proofs.RunStateLaws.{carried_same}
use Rattle.search.proofs.Scans.{same-either, no_lower}
use Rattle.search.proofs.scanning.note.Goals as goal

-- what is noted, by the test of the state that the rule makes
by-test :
    (code : List ℕ) (run : Run) (depth rule figure child : ℕ) (b x : Bool)
    → child ≡ step_word code rule (state_at run depth) → x ≡ on_path run depth child → x ≡ b
    → noted code run depth rule figure ≡ cond b run.tally (overshot_by run.tally figure)
by-test code run depth rule figure child b x made is e =
    ap (λ (w : ℕ). cond (on_path run depth w) run.tally (overshot_by run.tally figure)) (sym made)
    ∙ ap (λ (y : Bool). cond y run.tally (overshot_by run.tally figure)) (sym is ∙ e)

pub returns-then-not-on_path : goal.returns-then-not-on_path
returns-then-not-on_path c =
    let told =
    by-test _ c.args.run.now c.args.depth _ c.args.figure _ _ _ c.step_word-child.ensures c.on_path.ensures
    c.if-not-on_path.true in
    record { told = rw (told, c.overshoot.ensures) refl }

pub returns-else-not-on_path : goal.returns-else-not-on_path
returns-else-not-on_path c =
    carried_same
    (sym
    (by-test _ c.args.run.now c.args.depth _ _ _ _ _ c.step_word-child.ensures c.on_path.ensures
    c.if-not-on_path.false))

pub returns-else-figure-run : goal.returns-else-figure-run
returns-else-figure-run c =
    let run = c.args.run.now in
    let same = no_lower run.tally c.args.figure (omega (arith, c.if-figure-run.false)) in
    carried_same (sym (same-either _ run.tally _ same))
