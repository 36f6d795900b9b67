-- `figures::figure` meets its contract.
-- The figure by the first table is settled, or the others are looked at.
use mathlib.Core.Path.{sym, subst, ◌∙◌}
use Prim.Native.Nat.{ℕ, ◌<◌}
use Rattle.words.specs.Changes.{map_count, RanksLow}
use Rattle.figures.specs.Figures.{entry_figure, largest_at, StandsFor}
use Rattle.figures.proofs.FigureLaws.{left-first, first-low, settled-stands}
use Rattle.figures.proofs.figure.Goals as goal

pub entry_figure-first-requires : goal.entry_figure-first-requires
entry_figure-first-requires c =
    (first-low c.args.ranks (map_count c.args.changes.now) c.requires.0 c.requires.1, c.requires.2)

pub returns-then-is_settled : goal.returns-then-is_settled
returns-then-is_settled c =
    let a = c.args in
    settled-stands _ _ _ _ _ _ _ _ _ c.requires.2 (sym c.is_settled.ensures ∙ c.if-is_settled.true)
    (left-first a.table.now a.cost a.ranks (map_count a.changes.now) _ c.requires.0 c.requires.1
    c.entry_figure-first.ensures)

pub further_figure-requires : goal.further_figure-requires
further_figure-requires c =
    let told = sym c.map_count.ensures in (
      subst (λ (m : ℕ). 0 < m) told c.requires.0,
      subst (RanksLow c.args.ranks) told c.requires.1,
      c.requires.2,
      c.entry_figure-first.ensures,
    )

pub returns : goal.returns
returns c =
    let a = c.args in
    subst
    (λ (m : ℕ).
    StandsFor a.threshold a.least c.further_figure.result
    (entry_figure a.cost (largest_at a.table.now a.ranks m)))
    c.map_count.ensures c.further_figure.ensures
