-- `rank_changes::changing::place_change` meets its contract.
-- Both sides lie in the block, and every right variable stands on the left; the constant is folded into the row of the
-- first part, which is one of the positions.
use Rattle.std.proofs.Common.{arith, rules}
use Rattle.blocks.proofs.Accepted.{right_bound}
use Rattle.rank_changes.proofs.RowFolds.{constant-folded}
use Rattle.rank_changes.proofs.RankAfter.{change-placed}
use Rattle.rank_changes.proofs.changing.place_change.Goals as goal

pub add_terms-added-requires : goal.add_terms-added-requires
add_terms-added-requires c =
    let h = c.requires in
    let (n, left, right) = c.of-sides.ensures in
    rw (n, left, right) (record { at = right_bound c.args.block.now h.0 c.args.r h.1 })

pub first_part-lead-requires : goal.first_part-lead-requires
first_part-lead-requires c =
    let (n, left, right) = c.of-sides.ensures in
    (omega (arith, c.requires.0.sized.headed.sizes.n_low), omega arith)

pub overflow_mul-changes : goal.overflow_mul-changes
overflow_mul-changes c = omega (arith, c.requires.0.sized.headed.sizes.r_high)

pub overflow_add-changes : goal.overflow_add-changes
overflow_add-changes c = omega (arith, c.requires.0.sized.headed.sizes.r_high)

pub offset_bounds-changes-r : goal.offset_bounds-changes-r
offset_bounds-changes-r c = omega (arith, c.requires.0.sized.headed.sizes.r_high)

pub bounds-changes-r : goal.bounds-changes-r
bounds-changes-r c = omega (arith, c.requires.0.sized.headed.sizes.r_high)

pub returns : goal.returns
returns c =
    let b = c.args.block.now in
    let h = c.requires in
    let (n, left, right) = c.of-sides.ensures in
    let first = c.first_part-lead in
    let constant = c.fold_terms-constant.result in
    let added = c.add_to_row.ensures (λ x. constant) (λ x y l e. search rules) in
    let folded = constant-folded _ _ first.result first.ensures c.fold_terms-constant.ensures added in
    change-placed b h.0 h.1 n left right c.add_terms-added.ensures folded first.ensures c.place_parts-count.ensures
    (search rules)
