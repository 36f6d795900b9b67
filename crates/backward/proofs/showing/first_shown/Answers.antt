-- `backward::showing::first_shown` meets its contract.
use Rattle.std.proofs.Common.{refl, arith, rules, ◌≡◌, Bool, true, false, ℕ}
use Rattle.std.proofs.lemmas.Iterator.{first_from_find, YieldsList-from_range}
use Rattle.basics.proofs.Chains.{found-below}
use Rattle.blocks.specs.Sides.{left_terms, right_terms}
use Rattle.backward.specs.Reversible.{shows}
use Rattle.backward.proofs.showing.first_shown.Goals as goal

pub returns : goal.returns
returns c =
    let s = c.args.sides.now in
    let test : ℕ → Bool = shows (left_terms s) (right_terms s) c.args.v in
    found-below s.n test c.find.result
    (first_from_find _ _ _ (λ x. test x ≡ true) (λ x. test x ≡ false) c.find.ensures.ran
    (YieldsList-from_range 0 s.n s.n refl (omega arith)) (λ x q k. search rules) (λ x q k. search rules))
