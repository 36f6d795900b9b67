-- `edge_ranks::Sides::add_labels` meets its contract.
-- The loop's invariant: the labels passed have been added to both lists.
use Rattle.std.proofs.Common.{◌≡◌, ◌*◌, ◌≤◌}
use Rattle.edge_ranks.specs.Lists.{rank_at, first_rank, second_rank}
use Rattle.edge_ranks.proofs.Growing.{Grown}
use Rattle.edge_ranks.proofs.Sides.add_labels.Given as goal

abbrev pub invariant-loop-label : goal.invariant-loop-label
invariant-loop-label l =
    let first = first_rank l.self.code.now l.self.weights.now l.self.x in
    let second = second_rank l.self.code.now l.self.weights.now l.self.x l.self.y in
    let old = l.initial.lists in record {
      at_few : l.at ≤ 16384;
      count_few : l.count ≤ l.at;
      at_is : l.at ≡ l.label * l.count;
      sources : Grown first l.label l.p l.count l.at (rank_at old.sources) (rank_at l.lists.sources);
      targets : Grown second l.label l.p l.count l.at (rank_at old.targets) (rank_at l.lists.targets);
    }
