-- `blocks::validity::rule_bound` meets its contract.
use Rattle.std.proofs.Common.{◌≡◌, ap, ap₂, ◌∙◌, ℕ, ◌+◌, ◌≤◌, Bool, List, length, arith, rules}
use Rattle.std.proofs.iter.Serving.{serving}
use Rattle.basics.specs.Bounded.{all}
use Rattle.basics.proofs.Chains.{all-numbers}
use Rattle.blocks.specs.Terms.{term_of}
use Rattle.blocks.specs.Layout.{positions, left_at, right_at, side_at}
use Rattle.blocks.specs.Validity.{bound_in, rule_bound}
use Rattle.blocks.proofs.Offsets.{left-inside, right-inside}
use Rattle.blocks.proofs.validity.rule_bound.Goals as goal

pub all-requires-clause-callable : goal.all-requires-clause-callable
all-requires-clause-callable c =
    let b = c.args.block.now in
    let h = c.requires in
    let p : c.left_at-left.result + c.positions-n.result ≤ length b =
    omega (arith, left-inside b h.0 c.args.r h.1, c.left_at-left.ensures.0, c.positions-n.ensures.0) in
    let q : c.right_at-right.result + c.positions-n.result ≤ length b =
    omega (arith, right-inside b h.0 c.args.r h.1, c.right_at-right.ensures.0, c.positions-n.ensures.0) in
    grind (serving, p, q)

-- the test at the places where the code finds the rule
abbrev test : List ℕ → ℕ → ℕ → ℕ → ℕ → Bool
test b n left right i = bound_in n (side_at b left) (term_of (side_at b right i))

same-bound :
    (b : List ℕ) (r n left right : ℕ) → n ≡ positions b → left ≡ left_at b r → right ≡ right_at b r
    → all n (test b n left right) ≡ rule_bound b r
unfolding rule_bound
same-bound b r n left right p q o =
    ap₂ (λ (n left : ℕ). all n (test b n left right)) p q
    ∙ ap (λ (right : ℕ). all (positions b) (test b (positions b) (left_at b r) right)) o

pub returns : goal.returns
returns c =
    let b = c.args.block.now in
    let n = c.positions-n.result in
    all-numbers n (test b n c.left_at-left.result c.right_at-right.result) c.all.result c.all.ensures.ran
    (λ x q k. search rules) (λ x q k. search rules)
    ∙ same-bound b c.args.r _ _ _ c.positions-n.ensures.0 c.left_at-left.ensures.0 c.right_at-right.ensures.0
