-- `search::scanning::judge_by_all` meets its contract.
-- What the code takes for the figure stands for it: both are above the threshold and note the same, or it is exact.
use mathlib.Core.Path.{refl}
use native.Mathlib.Omega.{arith}
use Rattle.words.specs.Sides.{step_word}
use Rattle.search.specs.Run.{state_at}
use Rattle.search.specs.OnWords.{on_path}
use Rattle.search.proofs.Scans.{offered-low, rule-few, cost-small}
use Rattle.search.proofs.Scans.{stands-noted, stands-above, stands-within}
use Rattle.search.proofs.scanning.judge_by_all.Goals as goal

pub cost_word-requires : goal.cost_word-requires
cost_word-requires c = rule-few c.requires.0 c.requires.1

pub figure-total-requires : goal.figure-total-requires
figure-total-requires c =
    let k = c.requires.0 in (
      k.given.ready.some_map,
      offered-low k c.requires.1,
      cost-small k c.cost_word.result c.cost_word.ensures.1,
    )

pub returns-then-run-total : goal.returns-then-run-total
returns-then-run-total c =
    let a = c.args in
    let run = a.run.now in
    let child = step_word a.code.now a.rule (state_at run a.depth) in
    let stands = rw c.cost_word.ensures.0 at c.figure-total.ensures in
    let same = stands-noted _ run.tally _ _ (on_path run a.depth child) stands in
    (stands-above _ _ _ _ stands c.if-run-total.true, rw same at c.note.ensures)

pub returns : goal.returns
returns c =
    let stands = rw c.cost_word.ensures.0 at c.figure-total.ensures in
    (stands-within _ _ _ _ stands (omega (arith, c.if-run-total.false)), refl)
