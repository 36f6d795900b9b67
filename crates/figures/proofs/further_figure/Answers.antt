-- `figures::further_figure` meets its contract.
use mathlib.Core.Path.{sym, ◌∙◌}
use mathlib.Core.Logic.{inl}
use Prim.Native.Nat.{◌+◌, ◌-◌}
use native.Mathlib.Omega.{arith}
use Rattle.figures.proofs.FigureLaws.{left-first, left-next, left-none, left-low, settled-stands}
use Rattle.figures.proofs.further_figure.Goals as goal

pub loop-init : goal.loop-init
loop-init c =
    let a = c.args in
    left-first a.table.now a.cost a.ranks a.maps a.first c.requires.0 c.requires.1 c.requires.3

pub entry_figure-requires : goal.entry_figure-requires
entry_figure-requires c = (left-low _ _ _ _ _ _ _ (omega arith) c.loop.invariant, c.requires.2)

pub returns-then-is_settled : goal.returns-then-is_settled
returns-then-is_settled c =
    settled-stands _ _ _ _ _ _ _ _ _ c.requires.2 (sym c.is_settled.ensures ∙ c.if-is_settled.true)
    (left-next _ _ _ _ _ _ _ (c.args.maps - (c.loop.counter + 1)) _ c.requires.2 (omega arith) c.loop.invariant (cc))

pub loop-preserved : goal.loop-preserved
loop-preserved c =
    left-next _ _ _ _ _ _ _ _ _ c.requires.2 (omega arith) c.loop.invariant (cc)

pub returns : goal.returns
returns c = inl (left-none _ _ _ _ _ _ _ (omega arith) c.loop.invariant)
