-- `psvn::rules::makes` meets its contract.
use Rattle.std.proofs.Common.{sym, ap, ◌∙◌, Bool, ℕ, eqb, length, get_or, rules}
use Rattle.basics.proofs.Bounded.{all-ext}
use Rattle.basics.proofs.Chains.{all-numbers}
use Rattle.blocks.specs.Terms.{term_of}
use Rattle.blocks.specs.Layout.{side_at}
use Rattle.psvn.specs.Rules.{given, rewritten}
use Rattle.psvn.proofs.Making.{rewritten-at}
use Rattle.psvn.proofs.rules.makes.Goals as goal

pub returns : goal.returns
returns c =
    let o = c.args.old.now in
    let new = c.args.new.now in
    let n = length o in
    let left = side_at c.args.block.now c.args.left in
    let right = side_at c.args.block.now c.args.right in
    let given_there : ℕ → Bool = λ i. eqb (given n left o i (term_of (right i))) (get_or new i 0) in
    let made_there : ℕ → Bool = λ i. eqb (get_or (rewritten n left right o) i 0) (get_or new i 0) in
    all-numbers n given_there c.all.result c.all.ensures.ran (λ x q k. search rules) (λ x q k. search rules)
    ∙ all-ext given_there made_there n (λ i l.
    ap (λ (y : ℕ). eqb y (get_or new i 0)) (sym (rewritten-at n left right o i l)))
