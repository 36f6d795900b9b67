-- `psvn::matching::constant_mismatch` meets its contract.
use Rattle.std.proofs.Common.{◌≡◌, refl, sym, subst, Bool, true, false, not, Option, ℕ, length, arith, rules}
use Rattle.std.proofs.lemmas.Iterator.{first_from_find, YieldsList-from_range}
use Rattle.basics.specs.Bounded.{find}
use Rattle.basics.proofs.Chains.{found-below}
use Rattle.blocks.specs.Layout.{side_at}
use Rattle.psvn.specs.TwoParts.{constant_agrees, constant_mismatch, MismatchMeans}
use Rattle.psvn.proofs.MatchingLaws.{mismatch-means}
use Rattle.psvn.proofs.matching.constant_mismatch.Goals as goal

-- what a scan by a test gives means what it should
means :
    (n : ℕ) (test : ℕ → Bool) {x : Option ℕ} → x ≡ find n (λ k. not (test k)) → MismatchMeans n test x
means n test e = subst (MismatchMeans n test) (sym e) (mismatch-means n test)

pub returns : goal.returns
unfolding constant_mismatch
returns c =
    let n = length c.args.state.now in
    let test = constant_agrees (side_at c.args.block.now c.args.at) c.args.state.now in
    let fails : ℕ → Bool = λ k. not (test k) in
    let found =
    found-below n fails c.find.result
    (first_from_find _ _ _ (λ x. fails x ≡ true) (λ x. fails x ≡ false) c.find.ensures.ran
    (YieldsList-from_range 0 n n refl (omega arith)) (λ x q k. search rules) (λ x q k. search rules)) in
    record { result_value = found; mismatch_means = means n test found }
