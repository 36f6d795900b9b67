-- `maps::maps_whole` meets its contract.
use Rattle.std.proofs.Common.{sym, ap, ◌∙◌, ℕ, ◌%◌, length}
use lib.Dec.{leb}
use borrow.Author.Tests.{eq-eqb, ne_eqb}
use Rattle.maps.specs.Maps.{map_width, maps_whole}
use Rattle.maps.proofs.maps_whole.Goals as goal

pub returns-then-maps-map_width-eq0 : goal.returns-then-maps-map_width-eq0
unfolding maps_whole
returns-then-maps-map_width-eq0 c =
    let m = c.args.maps.now in
    let whole = sym (ap (λ (w : ℕ). length m % w) c.map_width.ensures) ∙ c.if-maps-map_width-eq0.true in
    rw (eq-eqb (length m % map_width c.args.block.now) 0 whole) (ap (λ (n : ℕ). leb n 3) c.further_maps.ensures)

pub returns-else-maps-map_width-eq0 : goal.returns-else-maps-map_width-eq0
unfolding maps_whole
returns-else-maps-map_width-eq0 c =
    let m = c.args.maps.now in
    let e = ap (λ (w : ℕ). length m % w) c.map_width.ensures in
    rw (
      ne_eqb (length m % c.map_width.result) 0 c.if-maps-map_width-eq0.false,
      ne_eqb (length m % map_width c.args.block.now) 0 (λ q. c.if-maps-map_width-eq0.false (e ∙ q)),
    )
