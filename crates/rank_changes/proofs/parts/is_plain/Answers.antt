-- `rank_changes::parts::is_plain` meets its contract.
use Rattle.std.proofs.Common.{◌≡◌, ℕ, Bool, true, false, nat_eq, refl, arith, rules}
use Rattle.std.proofs.lemmas.Iterator.{cases_from_all, YieldsList-from_range}
use Rattle.basics.proofs.Chains.{all-below}
use Rattle.rank_changes.specs.Rows.{entry}
use Rattle.rank_changes.proofs.parts.is_plain.Goals as goal

pub returns : goal.returns
returns c =
    let test : ℕ → Bool = λ x. nat_eq (entry c.args.rows.now c.args.p x) 0 in
    all-below 16 test c.all.result
    (cases_from_all _ _ _ (λ x. test x ≡ true) (λ x. test x ≡ false) c.all.ensures.ran
    (YieldsList-from_range 0 16 16 refl (omega arith)) (λ x q k. search rules) (λ x q k. search rules))
