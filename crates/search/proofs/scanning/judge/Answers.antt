-- `search::scanning::judge` meets its contract.
-- The sums are no more than the figure, so that one above the threshold settles it; with no third table, and the mark
-- above the threshold, sums within it do.
use mathlib.Core.Path.{◌≡◌, refl, sym, ap, ◌∙◌}
use mathlib.Core.List.{List}
use Prim.Native.Nat.{ℕ, ◌+◌, ◌/◌, ◌%◌, ◌≤◌, ◌<◌}
use native.Mathlib.Omega.{arith}
use lib.ListN.{get_or}
use borrow.Author.Tests.{ltb-false, leb-false}
use Rattle.basics.specs.Marks.{mark}
use Rattle.basics.proofs.Truth.{or-false}
use Rattle.words.specs.Changes.{map_count}
use Rattle.words.specs.Sides.{cost_word}
use Rattle.figures.specs.Figures.{entry_figure, largest_at}
use Rattle.figures.proofs.FigureLaws.{first-low, second-low, first-sum, second-sum, one-sum, two-sums}
use Rattle.search.specs.declared.run.Run.{Run}
use Rattle.search.specs.Run.{cost_at}
use Rattle.search.specs.Parts.{Here, figure_at}
use Rattle.search.proofs.Scans.{offered-low, rule-few, cost-small, late-noted, judged-above}
use Rattle.search.proofs.scanning.judge.Goals as goal
use Rattle.search.proofs.scanning.judge.Goals.{then-map_count-gt1+else-run-second, else-map_count-gt1}

-- the sum of a cost and an entry, as it is told
abbrev Summed : ℕ → ℕ → ℕ → Type 0
Summed cost entry sum = (sum ≡ cost + entry) × (sum ≤ cost + mark)

-- a rule that costs as much as is paid
module _
    {code changes : List ℕ} {run : Run} {depth : ℕ} (k : Here code changes run depth) (rule charge : ℕ)
    (paid : (charge ≡ cost_word code rule) × (charge ≤ 255)) (table : List ℕ) (ranks : ℕ) where
  abbrev cost : ℕ
  cost = cost_at run depth + charge

  abbrev first : ℕ
  first = get_or table (ranks % 65536) 0

  abbrev second : ℕ
  second = get_or table (ranks / 65536 % 65536) 0

  abbrev exact : ℕ
  exact = figure_at code changes table run depth rule ranks

  small : cost ≤ 8589934592
  small = cost-small k charge paid.1

  -- the figure by what the rule costs, and the one that is meant
  charged : entry_figure cost (largest_at table ranks (map_count changes)) ≡ exact
  charged =
      ap (λ (x : ℕ). entry_figure (cost_at run depth + x) (largest_at table ranks (map_count changes))) paid.0

  -- the sums are no more than the figure
  first_below : (sum : ℕ) → Summed cost first sum → sum ≤ exact
  first_below sum e =
      omega (
        arith,
        charged,
        e.0,
        first-sum cost small table ranks _ k.given.ready.some_map (omega (arith, e.0, e.1)),
      )

  second_below : (sum : ℕ) → Summed cost second sum → 1 < map_count changes → sum ≤ exact
  second_below sum e two =
      omega (arith, charged, e.0, second-sum cost small table ranks _ two (omega (arith, e.0, e.1)))

  -- below the mark those of all tables tell it
  one-within :
      run.threshold < mark → cost + first ≤ run.threshold → map_count changes ≤ 1 → exact ≤ run.threshold
  one-within under a few =
      omega (arith, charged, one-sum cost small table ranks _ _ under a few k.given.ready.some_map)

  two-within :
      run.threshold < mark → cost + first ≤ run.threshold → map_count changes ≤ 2 → 1 < map_count changes
      → cost + second ≤ run.threshold → exact ≤ run.threshold
  two-within under a few two b = omega (arith, charged, two-sums cost small table ranks _ _ under a few two b)

pub cost_word-requires : goal.cost_word-requires
cost_word-requires c = rule-few c.requires.0 c.requires.1

pub entry_sum-first-requires : goal.entry_sum-first-requires
entry_sum-first-requires c =
    let k = c.requires in
    (first-low _ _ k.0.given.ready.some_map (offered-low k.0 k.1), cost-small k.0 _ c.cost_word.ensures.1)

pub returns-then-first-run : goal.returns-then-first-run
returns-then-first-run c =
    let a = c.args in
    let below = first_below c.requires.0 _ _ c.cost_word.ensures a.table.now a.ranks _ c.entry_sum-first.ensures in
    judged-above a.code.now a.changes.now a.table.now a.run.now a.depth a.rule a.ranks c.judge_by_all.new.run
    c.judge_by_all.result (omega (arith, c.if-run-first.true, below)) c.judge_by_all.ensures

pub returns-else-first-run : goal.returns-else-first-run
returns-else-first-run c =
    let k = c.requires.0 in
    let below = first_below k _ _ c.cost_word.ensures c.args.table.now c.args.ranks _ c.entry_sum-first.ensures in
    (omega (arith, c.if-run-first.true, below), late-noted k _ _ (omega (arith, c.if-first-run.false, below)))

pub entry_sum-second-requires : goal.entry_sum-second-requires
entry_sum-second-requires c =
    let k = c.requires in
    let two : 1 < map_count c.args.changes.now = omega (arith, c.if-map_count-gt1.true, c.map_count.ensures) in
    (second-low _ _ two (offered-low k.0 k.1), cost-small k.0 _ c.cost_word.ensures.1)

pub returns-then-second-run : goal.returns-then-second-run
returns-then-second-run c =
    let a = c.args in
    let below =
    second_below c.requires.0 _ _ c.cost_word.ensures a.table.now a.ranks _ c.entry_sum-second.ensures
    (omega (arith, c.if-map_count-gt1.true, c.map_count.ensures)) in
    judged-above a.code.now a.changes.now a.table.now a.run.now a.depth a.rule a.ranks
    c.judge_by_all-then-second-run.new.run c.judge_by_all-then-second-run.result
    (omega (arith, c.if-run-second.true, below)) c.judge_by_all-then-second-run.ensures

pub returns-else-second-run : goal.returns-else-second-run
returns-else-second-run c =
    let k = c.requires.0 in
    let below =
    second_below k _ _ c.cost_word.ensures c.args.table.now c.args.ranks _ c.entry_sum-second.ensures
    (omega (arith, c.if-map_count-gt1.true, c.map_count.ensures)) in
    (omega (arith, c.if-run-second.true, below), late-noted k _ _ (omega (arith, c.if-second-run.false, below)))

pub returns : goal.returns
returns c =
    let a = c.args in
    let k = c.requires.0 in
    let paid = c.cost_word.ensures in
    let closed = or-false _ _ (sym c.is_open.ensures ∙ c.if-is_open.false) in
    let few = ltb-false 2 (map_count a.changes.now) closed.0 in
    let under = leb-false mark a.run.now.threshold closed.1 in
    let low : c.entry_sum-first.result ≤ a.run.now.threshold = c.if-run-first.false in
    let sum = c.entry_sum-first.ensures.0 in (
      elim c.if-map_count-gt1.branch [
        | then-map_count-gt1+else-run-second w ↦
            two-within k _ _ paid a.table.now a.ranks under (omega (arith, low, sum)) few
            (omega (arith, c.map_count.ensures, w.if-map_count-gt1.true))
            (omega (arith, w.entry_sum-second.ensures.0, w.if-run-second.false))
        | else-map_count-gt1 w ↦
            one-within k _ _ paid a.table.now a.ranks under (omega (arith, low, sum))
            (omega (arith, c.map_count.ensures, w.if-map_count-gt1.false))
      ],
      refl,
    )
