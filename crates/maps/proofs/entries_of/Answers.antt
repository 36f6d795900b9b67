-- `maps::entries_of` meets its contract.
-- The exercise under further map i has that map's K and the block's positions.
use mathlib.Core.Path.{sym, ap, ap₂, ◌∙◌}
use Prim.Native.Nat.{ℕ, ◌^◌, min}
use native.Mathlib.Omega.{arith}
use borrow.Author.Rules.{rules}
use Rattle.maps.proofs.MapLaws.{further-abstracts-is, further-entries}
use Rattle.maps.proofs.entries_of.Goals as goal

pub power_within-requires : goal.power_within-requires
power_within-requires c =
    let a = c.args in
    let e = further-abstracts-is a.block.now a.maps.now c.requires.0 a.i in
    (omega (arith, e, c.requires.2, c.further_abstracts.ensures.0), search rules, search rules)

pub returns : goal.returns
returns c =
    let a = c.args in
    let e = ap₂ ◌^◌ c.further_abstracts.ensures.0 c.positions.ensures.0 in
    c.power_within.ensures
    ∙ ap (λ (x : ℕ). min x 16385) (e ∙ sym (further-entries a.block.now a.maps.now c.requires.0 a.i))
