-- `edge_ranks::Sides::find_edges` meets its contract.
-- The loop's invariant: the lists begin with the ranks of the word 0, and have all words without the labels before p.
use Rattle.std.proofs.Common.{◌≡◌, ◌%◌, ◌≤◌, ◌<◌}
use Rattle.words.specs.Code.{position_count}
use Rattle.edge_ranks.specs.Lists.{rank_at, first_rank, second_rank, Listed}
use Rattle.edge_ranks.proofs.Sides.find_edges.Given as goal

abbrev pub invariant-loop-p : goal.invariant-loop-p
invariant-loop-p l =
    let first = first_rank l.self.code.now l.self.weights.now l.self.x in
    let second = second_rank l.self.code.now l.self.weights.now l.self.x l.self.y in
    let sources = rank_at l.lists.sources in
    let targets = rank_at l.lists.targets in record {
      some : 0 < l.count;
      few : l.count ≤ 16384;
      source : sources 0 ≡ first 0 % 16384;
      target : targets 0 ≡ second 0 % 16384;
      listed : Listed first second (position_count l.self.code.now) l.labels l.p sources targets l.count;
    }
