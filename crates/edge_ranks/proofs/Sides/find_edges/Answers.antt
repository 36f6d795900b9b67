-- `edge_ranks::Sides::find_edges` meets its contract.
use Rattle.std.proofs.Common.{◌≡◌, suc, ◌-◌, ap, ◌∙◌, arith, get_or-set_same}
use Rattle.words.specs.Code.{position_count}
use Rattle.words.specs.Ranking.{rank_word}
use Rattle.edge_ranks.specs.Lists.{first_rank, second_rank}
use Rattle.edge_ranks.proofs.Listing.{listed-first, listed-idle, listed_more}
use Rattle.edge_ranks.proofs.Sides.find_edges.Goals as goal

pub loop-p-init : goal.loop-p-init
loop-p-init c =
    let s = c.args.self.now in
    let old = c.args.lists.now in
    let source = get_or-set_same old.sources 0 c.first_rank.result 0 (omega arith) ∙ c.first_rank.ensures in
    let target = get_or-set_same old.targets 0 c.second_rank.result 0 (omega arith) ∙ c.second_rank.ensures in
    let first = first_rank s.code.now s.weights.now s.x in
    let second = second_rank s.code.now s.weights.now s.x s.y in record {
      some = omega arith;
      few = omega arith;
      source = source;
      target = target;
      listed = rw c.position_count-p.ensures
          (listed-first first second (position_count s.code.now) c.args.labels _ _ source target);
    }

pub loop-p-preserved-then-not-is_idle : goal.loop-p-preserved-then-not-is_idle
loop-p-preserved-then-not-is_idle c =
    let s = c.args.self.now in
    let l = c.loop-p in
    let i = l.invariant in
    let q = c.in_ok-count.ensures in
    let first = first_rank s.code.now s.weights.now s.x in
    let second = second_rank s.code.now s.weights.now s.x s.y in
    let n = position_count s.code.now in
    let e : l.p ≡ suc (l.p - 1) = omega (arith, c.loop-p-test.true) in record {
      some = omega (arith, (q.sources_added.kept 0 i.some).0);
      few = q.sources_added.few;
      source = (q.sources_added.kept 0 i.some).1 ∙ i.source;
      target = (q.targets_added.kept 0 i.some).1 ∙ i.target;
      listed =
          listed_more first second n c.args.labels c.requires.first_additive c.requires.second_additive (l.p - 1)
          (omega arith) _ _ _ _ l.count c.in_ok-count.count i.source i.target q.sources_added q.targets_added
          (rw e at i.listed);
    }

pub loop-p-preserved : goal.loop-p-preserved
unfolding first_rank second_rank
loop-p-preserved c =
    let s = c.args.self.now in
    let l = c.loop-p in
    let i = l.invariant in
    let n = position_count s.code.now in
    let first = first_rank s.code.now s.weights.now s.x in
    let second = second_rank s.code.now s.weights.now s.x s.y in
    let idle = c.is_idle.ensures c.if-not-is_idle.false in
    let e : l.p ≡ suc (l.p - 1) = omega arith in record {
      some = i.some;
      few = i.few;
      source = i.source;
      target = i.target;
      listed =
          listed-idle first second n c.args.labels c.requires.first_additive c.requires.second_additive (l.p - 1)
          (omega arith) _ _ l.count
          (λ k m b. (
            ap (rank_word s.weights.now n) (idle k m b),
            ap (first_rank s.code.now s.weights.now s.y) (idle k m b),
          ))
          (rw e at i.listed);
    }

pub returns : goal.returns
returns c =
    let e : c.loop-p.p ≡ 0 = omega arith in
    (c.loop-p.invariant.few, rw e at c.loop-p.invariant.listed)
