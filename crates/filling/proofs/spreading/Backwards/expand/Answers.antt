-- `filling::spreading::Backwards::expand` meets its contract.
-- The rules that are in the sets of a word's labels are those whose constants agree.
use Rattle.std.proofs.Common.{◌-◌, sym, ◌∙◌, arith, ⊎_elim, get_or}
use Rattle.basics.proofs.Comparing.{below?}
use Rattle.basics.proofs.SetLaws.{lowest-in, member-and}
use Rattle.basics.proofs.Truth.{true-false, and-true}
use Rattle.blocks.specs.Layout.{rules}
use Rattle.rule_sets.proofs.AgreeingLaws.{agreeing-constants, agreeing-out}
use Rattle.filling.proofs.spreading.Backwards.expand.Goals as goal

pub loop-rest-init : goal.loop-rest-init
loop-rest-init c =
    let s = c.args.self.now in
    let z = s.ranked.compiled.ready.relabelled.valid.sized.headed.sizes in
    let word = get_or s.ranked.words.now c.args.v 0 in
    let agree = rw c.positions.ensures.0 at c.agreeing_with-rest.ensures in (
      c.requires.good,
      omega arith,
      λ r h.
          ⊎_elim
          (λ below. (
            below,
            sym (agreeing-constants s.indexed word r below z.r_high z.n_high (s.fronted r below)) ∙ rw agree at h,
          ))
          (λ above. absurd (true-false h (rw (sym agree) at (agreeing-out s.indexed word r above z.n_low))))
          (below? r (rules s.ranked.compiled.block.now)),
    )

-- the lowest of what is left
pub pull-requires : goal.pull-requires
pull-requires c =
    let i = c.loop-rest.invariant in
    let low = lowest-in 64 c.loop-rest.rest c.loop-rest-test.true i.1 in
    let told = i.2 _ low.0 in
    rw c.lowest_of-rule.ensures.0 (record {
      good = i.0;
      in_block = (told.0, c.requires.v_bound);
      agrees = told.1;
    })

pub loop-rest-preserved : goal.loop-rest-preserved
loop-rest-preserved c =
    let s = c.loop-rest.rest in
    let i = c.loop-rest.invariant in
    let less = c.without_lowest-rest.ensures in (
      c.pull.ensures,
      omega (arith, less.1, i.1),
      λ r h. i.2 r (and-true _ _ (sym (member-and s (s - 1) r) ∙ rw less.0 at h)).0,
    )
