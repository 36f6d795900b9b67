-- `backward::reversible::reversible` meets its contract.
use Rattle.std.proofs.Common.{◌≡◌, ap, ap₂, ◌∙◌, ℕ, List, rules}
use Rattle.basics.specs.Bounded.{all}
use Rattle.basics.proofs.Chains.{all-numbers}
use Rattle.blocks.specs.Layout.{positions, left_of, right_of}
use Rattle.blocks.specs.Sides.{left_terms, right_terms}
use Rattle.backward.specs.Reversible.{form_at, reversible}
use Rattle.backward.proofs.reversible.reversible.Goals as goal

-- the test by the terms of the sides, as the code finds them
same-form :
    (b : List ℕ) (r n : ℕ) (left right : ℕ → ℕ) → n ≡ positions b → left ≡ left_of b r → right ≡ right_of b r
    → all n (form_at n left right) ≡ reversible b r
unfolding reversible
same-form b r n left right p q o =
    ap (λ (n : ℕ). all n (form_at n left right)) p
    ∙ ap₂ (λ (left right : ℕ → ℕ). all (positions b) (form_at (positions b) left right)) q o

pub returns : goal.returns
returns c =
    let s = c.of-sides.result in
    let e = c.of-sides.ensures in
    all-numbers s.n (form_at s.n (left_terms s) (right_terms s)) c.all.result c.all.ensures.ran
    (λ x q k. search rules) (λ x q k. search rules)
    ∙ same-form c.args.block.now c.args.r _ _ _ e.0 e.1 e.2
