-- `rank_changes::parts::place_parts` meets its contract.
use Rattle.std.proofs.Common.{◌≡◌, sym, ◌∙◌, arith, rules}
use Rattle.rank_changes.proofs.PartsWritten.{parts_none, parts-as, part-more, plain_more}
use Rattle.rank_changes.proofs.parts.place_parts.Goals as goal
use Rattle.rank_changes.proofs.parts.place_parts.Goals.{then-is_part, else-is_part}

pub loop-p-init : goal.loop-p-init
loop-p-init c = (search rules, parts_none c.args.changes.now)

pub overflow_mul-count : goal.overflow_mul-count
overflow_mul-count c = let few = c.loop-p.invariant.1.few in omega arith

pub overflow_add-at-then-is_part : goal.overflow_add-at-then-is_part
overflow_add-at-then-is_part c = let few = c.loop-p.invariant.1.few in omega arith

pub place_part-requires : goal.place_part-requires
place_part-requires c =
    let l = c.loop-p in
    let few = l.invariant.1.few in
    (omega arith, omega arith)

pub loop-p-preserved : goal.loop-p-preserved
loop-p-preserved c =
    let l = c.loop-p in
    let k = c.is_part in (
      search rules,
      elim c.if-is_part.branch [
        | then-is_part w ↦ rw (w.changes-is, w.count-is) (part-more l.invariant.1 (omega arith) w.place_part.ensures)
        | else-is_part w ↦ rw (w.changes-is, w.count-is) (plain_more l.invariant.1 (sym k.ensures ∙ w.if-is_part.false))
      ],
    )

pub returns : goal.returns
returns c =
    let a = c.args in
    let l = c.loop-p in
    let e : l.p ≡ a.n = omega arith in
    parts-as e l.invariant.1
