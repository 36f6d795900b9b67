-- `runs::replay::numbers_ok` meets its contract.
use Rattle.std.proofs.Common.{◌≡◌, ap, ◌∙◌, ℕ, Bool, true, false, ltb, length, get_or}
use Rattle.std.proofs.lemmas.Iterator.{cases_from_all, YieldsList-from_slice}
use borrow.Author.Rules.{rules as std_rules}
use Rattle.basics.specs.Bounded.{all}
use Rattle.basics.proofs.Chains.{all-slice}
use Rattle.runs.specs.Replay.{numbers_ok}
use Rattle.runs.proofs.replay.numbers_ok.Goals as goal

pub returns : goal.returns
unfolding numbers_ok
returns c =
    let list = c.args.list.now in
    let test : ℕ → Bool = λ x. ltb x c.rules-rules.result in
    all-slice list test c.all.result
    (cases_from_all _ _ _ (λ x. test x ≡ true) (λ x. test x ≡ false) c.all.ensures.ran
    (YieldsList-from_slice list (cc)) (λ x q k. search std_rules) (λ x q k. search std_rules))
    ∙ ap (λ (n : ℕ). all (length list) (λ i. ltb (get_or list i 0) n)) c.rules-rules.ensures.0
