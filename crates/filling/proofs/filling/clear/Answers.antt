-- `filling::filling::clear` meets its contract.
use Rattle.std.proofs.Common.{◌≡◌, ap, ◌∙◌, Bool, cond, ℕ, arith, length-set}
use native.Mathlib.Nat.{one-le-pow}
use Rattle.basics.specs.Marks.{mark}
use Rattle.basics.proofs.Lists.{set_more}
use Rattle.blocks.specs.Layout.{goals, abstract_states}
use Rattle.psvn.specs.Rules.{meets}
use Rattle.psvn.specs.Ranks.{unrank}
use Rattle.words.specs.Sides.{meets_word}
use Rattle.words.specs.Ranking.{word_of}
use Rattle.distances.proofs.Writing.{good-clear}
use Rattle.tables.specs.Abstraction.{graph_of}
use Rattle.tables.proofs.WordEdges.{few, word-goal}
use Rattle.filling.proofs.filling.clear.Goals as goal

pub word_of-word-requires : goal.word_of-word-requires
unfolding abstract_states
word_of-word-requires c =
    let z = c.args.compiled.now.ready.relabelled.valid.sized.headed in
    (z, one-le-pow _ _ z.sizes.k_low)

pub loop-u-init : goal.loop-u-init
loop-u-init c =
    let s = c.args.compiled.now in record {
      few = few s.block.now s.code.now s.weights.now s.ready;
      long = c.requires;
      ranked = λ w h. absurd (omega arith);
      cleared = λ w h. absurd (omega arith);
      next = c.word_of-word.ensures;
    }

pub loop-u-preserved : goal.loop-u-preserved
loop-u-preserved c =
    let s = c.args.compiled.now in
    let b = s.block.now in
    let l = c.loop-u in
    let i = l.invariant in
    let made = c.cleared_entry.result in
    let entry : made ≡ cond (meets b (unrank b l.u)) 0 mark =
    c.cleared_entry.ensures
    ∙ ap (λ (t : Bool). cond t 0 mark)
    (ap (λ (x : ℕ). meets_word s.code.now (goals b) x) i.next
    ∙ word-goal b s.code.now s.weights.now s.ready l.u) in record {
      few = i.few;
      long = length-set l.table l.u made ∙ i.long;
      ranked = set_more (word_of b) l.words l.u l.word i.ranked (omega arith) i.next;
      cleared =
          set_more (λ w. cond (meets b (unrank b w)) 0 mark) l.table l.u made i.cleared (omega arith) entry;
      next = c.next_word-word.ensures;
    }

pub returns : goal.returns
returns c =
    let b = c.args.compiled.now.block.now in
    let l = c.loop-u in
    let i = l.invariant in (
      record { word = λ w h. i.ranked w (omega (arith, i.long)) },
      good-clear (graph_of b) l.table i.long (λ w h. i.cleared w (omega (arith, i.long))),
    )
