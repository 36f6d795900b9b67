-- `edge_ranks::Sides::add_labels` meets its contract.
use Rattle.std.proofs.Common.{◌∙◌, ap, ℕ, ◌%◌, arith}
use Rattle.edge_ranks.specs.Lists.{first_rank, second_rank}
use Rattle.edge_ranks.proofs.Growing.{grown-more, next-at}
use Rattle.edge_ranks.proofs.Sides.add_labels.Goals as goal

pub loop-label-preserved : goal.loop-label-preserved
loop-label-preserved c =
    let s = c.args.self.now in
    let l = c.loop-label in
    let i = l.invariant in
    let first = first_rank s.code.now s.weights.now s.x in
    let second = second_rank s.code.now s.weights.now s.x s.y in
    let more =
    c.difference.ensures.1 ∙ c.first_rank-first.ensures
    ∙ ap (λ (w : ℕ). first w % 16384) c.single-word.ensures in
    let more-second =
    c.difference-in-loop-label.ensures.1 ∙ c.second_rank-second.ensures
    ∙ ap (λ (w : ℕ). second w % 16384) c.single-word.ensures in record {
      at_few = omega arith;
      count_few = omega arith;
      at_is = next-at c.args.count l.label l.at i.at_is;
      sources = grown-more i.sources c.extend.ensures i.at_is i.count_few more;
      targets = grown-more i.targets c.extend-in-loop-label.ensures i.at_is i.count_few more-second;
    }
