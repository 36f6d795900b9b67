-- `edge_ranks::Sides::first_rank` meets its contract.
use Rattle.std.proofs.Common.{◌∙◌, ap, ℕ, ◌%◌}
use Rattle.words.specs.Code.{position_count}
use Rattle.words.specs.Ranking.{rank_word}
use Rattle.edge_ranks.specs.Lists.{first_rank}
use Rattle.edge_ranks.proofs.Sides.first_rank.Goals as goal

pub returns : goal.returns
unfolding first_rank
returns c =
    let s = c.args.self.now in
    c.rank.ensures ∙ ap (λ (w : ℕ). rank_word s.weights.now (position_count s.code.now) w % 16384) c.made.ensures
