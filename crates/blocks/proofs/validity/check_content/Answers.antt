-- `blocks::validity::check_content` meets its contract.
-- At each return the tests that led there say which condition is the first to fail.
use Rattle.std.proofs.Common.{sym, ◌∙◌}
use Rattle.blocks.specs.Validity.{content_conditions}
use Rattle.blocks.proofs.validity.check_content.Goals as goal

pub returns-then-not-map_ok : goal.returns-then-not-map_ok
unfolding content_conditions
returns-then-not-map_ok c = sym (rw (sym c.map_ok.ensures ∙ c.if-not-map_ok.true))

pub returns-then-not-terms_ok : goal.returns-then-not-terms_ok
unfolding content_conditions
returns-then-not-terms_ok c =
    sym (rw (sym c.map_ok.ensures ∙ c.if-not-map_ok.false, sym c.terms_ok.ensures ∙ c.if-not-terms_ok.true))

pub returns-then-not-bound_ok : goal.returns-then-not-bound_ok
unfolding content_conditions
returns-then-not-bound_ok c =
    sym (rw (
      sym c.map_ok.ensures ∙ c.if-not-map_ok.false,
      sym c.terms_ok.ensures ∙ c.if-not-terms_ok.false,
      sym c.bound_ok.ensures ∙ c.if-not-bound_ok.true,
    ))

pub returns : goal.returns
unfolding content_conditions
returns c =
    sym (rw (
      sym c.map_ok.ensures ∙ c.if-not-map_ok.false,
      sym c.terms_ok.ensures ∙ c.if-not-terms_ok.false,
      sym c.bound_ok.ensures ∙ c.if-not-bound_ok.false,
    ))
