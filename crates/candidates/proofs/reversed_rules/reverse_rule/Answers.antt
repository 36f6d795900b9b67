-- `candidates::reversed_rules::reverse_rule` meets its contract.
-- Both sides of the rule lie in the block, and they are compiled to places of their own.
use Rattle.std.proofs.Common.{◌+◌, ◌≤◌, ◌<◌, ◌∙◌, length, arith, rules, below_more, get_or-set_other}
use Rattle.blocks.proofs.Offsets.{left-inside, right-inside}
use Rattle.words.specs.Sides.{left_place}
use Rattle.words.proofs.KeptCode.{allows-kept}
use Rattle.candidates.proofs.reversed_rules.reverse_rule.Goals as goal

pub slice_bounds-rule-end : goal.slice_bounds-rule-end
slice_bounds-rule-end c =
    let inside : c.left_at-left.result + c.positions-n.result ≤ length c.args.block.now =
    omega (arith, left-inside c.args.block.now c.requires.0 c.args.r c.requires.1) in
    search rules

pub slice_bounds-rule-end-2 : goal.slice_bounds-rule-end-2
slice_bounds-rule-end-2 c =
    let inside : c.right_at-right.result + c.positions-n.result ≤ length c.args.block.now =
    omega (arith, right-inside c.args.block.now c.requires.0 c.args.r c.requires.1) in
    search rules

pub returns : goal.returns
returns c =
    let r = c.args.r in
    let few : r < 64 = omega (arith, c.requires.1, c.requires.0.headed.sizes.r_high) in
    let sides = c.place_sides.ensures in
    let code = c.place_sides.new.code in
    let groups = c.groups.result in
    λ before.
    below_more _ r
    (λ k l i y m.
    allows-kept (left_place k)
    (record {
      element = λ j a b.
          get_or-set_other code (816 + r) j groups 0 (λ e. omega arith) ∙ sides.code.before j (omega arith);
    })
    i y
    ∙ before k l i y m)
    (λ i y m.
    allows-kept (left_place r)
    (record { element = λ j a b. get_or-set_other code (816 + r) j groups 0 (λ e. omega arith) })
    i y
    ∙ sides.left_tested.nothing_behind i y (omega (arith, m, c.positions-n.ensures.0)))
