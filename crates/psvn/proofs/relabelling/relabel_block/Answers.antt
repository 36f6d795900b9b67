-- `psvn::relabelling::relabel_block` meets its contract.
-- Head and map, rules and goals are written behind one another.
use mathlib.Core.Path.{◌≡◌, ap, ◌∙◌}
use mathlib.Core.List.{List, ◌++◌}
use Prim.Native.Nat.{ℕ, ◌+◌}
use native.Mathlib.Omega.{arith}
use lib.ListN.{length, length-append}
use Rattle.basics.proofs.Lists.{sets_behind, sets-front}
use Rattle.blocks.specs.Layout.{relabel_head}
use Rattle.psvn.specs.Relabelling.{relabel_rules, relabel_goals, relabel_block}
use Rattle.psvn.proofs.relabelling.relabel_block.Goals as goal

-- the three parts' lengths
parts :
    (b : List ℕ) → length (relabel_block b)
    ≡ length (relabel_head b) + (length (relabel_rules b) + length (relabel_goals b))
unfolding relabel_block
parts b =
    length-append (relabel_head b) (relabel_rules b ++ relabel_goals b)
    ∙ ap (λ (k : ℕ). length (relabel_head b) + k) (length-append (relabel_rules b) (relabel_goals b))

pub relabel_head-rules_at-requires : goal.relabel_head-rules_at-requires
relabel_head-rules_at-requires c = (
  c.requires.0.sized.headed,
  omega (arith, parts c.args.block.now),
)

pub relabel_rules-goals_at-requires : goal.relabel_rules-goals_at-requires
relabel_rules-goals_at-requires c =
    (c.requires.0, omega (arith, parts c.args.block.now, c.relabel_head-rules_at.auto.out))

pub relabel_goals-requires : goal.relabel_goals-requires
relabel_goals-requires c =
    let kept =
    (c.relabel_rules-goals_at.auto.out
    ∙ c.relabel_head-rules_at.auto.out) in
    (c.requires.0, omega (arith, parts c.args.block.now, kept))

pub shape_of-out : goal.shape_of-out
shape_of-out c =
    let rules-kept = c.relabel_rules-goals_at.auto.out in
    let head-kept = c.relabel_head-rules_at.auto.out in
    c.relabel_goals.auto.out ∙ rules-kept ∙ head-kept

pub returns : goal.returns
unfolding relabel_block
returns c =
    let b = c.args.block.now in
    let o = c.args.out.now in
    let h = c.relabel_head-rules_at.ensures in
    let r = c.relabel_rules-goals_at.ensures in
    let body =
    sets_behind _ _ (relabel_rules b) (relabel_goals b) r.1 r.0 c.relabel_goals.ensures in
    sets_behind o 0 (relabel_head b) (relabel_rules b ++ relabel_goals b) h.out_after (omega (arith, h.value)) body
    ∙ sets-front o (relabel_head b ++ (relabel_rules b ++ relabel_goals b)) c.requires.1
