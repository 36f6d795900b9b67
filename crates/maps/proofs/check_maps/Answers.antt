-- `maps::check_maps` meets its contract.
-- At each return the tests that led there say which condition is the first to fail.
use Rattle.std.proofs.Common.{sym, ◌∙◌}
use Rattle.maps.specs.Maps.{map_conditions}
use Rattle.maps.proofs.check_maps.Goals as goal

pub returns-then-not-maps_whole : goal.returns-then-not-maps_whole
unfolding map_conditions
returns-then-not-maps_whole c = sym (rw (sym c.maps_whole.ensures ∙ c.if-not-maps_whole.true))

pub returns-then-not-maps_ok : goal.returns-then-not-maps_ok
unfolding map_conditions
returns-then-not-maps_ok c =
    sym (rw (
      sym c.maps_whole.ensures ∙ c.if-not-maps_whole.false,
      sym c.maps_ok.ensures ∙ c.if-not-maps_ok.true,
    ))

pub returns : goal.returns
unfolding map_conditions
returns c =
    sym (rw (
      sym c.maps_whole.ensures ∙ c.if-not-maps_whole.false,
      sym c.maps_ok.ensures ∙ c.if-not-maps_ok.false,
    ))
