-- The running state of a search: the path with the ranks of its states and the costs up to them, the rules of the list,
-- the limits of the round, and what the round carries. The functions of the search read and write its parts, which are
-- named here. `ListKept` is what stays of the list at a depth.
use Rattle.std.specs.Prelude.{◌≡◌, List, ℕ, suc, ◌-◌, ◌<◌, get_or}
use Rattle.basics.specs.Lists.{tabulate_from}
use Rattle.tallies.specs.declared.Tally.{Tally}
use Rattle.search.specs.declared.run.Run.{Run}

-- the state after i rules, its ranks under all maps, and the cost of the i rules
abbrev pub state_at : Run → ℕ → ℕ
state_at run i = get_or run.states i 0

abbrev pub rank_at : Run → ℕ → ℕ
rank_at run i = get_or run.ranks i 0

abbrev pub cost_at : Run → ℕ → ℕ
cost_at run i = get_or run.costs i 0

-- rule i of the list
abbrev pub rule_at : Run → ℕ → ℕ
rule_at run i = get_or run.rules i 0

-- the rules of the list from one depth up to another
abbrev pub rules_from : Run → ℕ → ℕ → List ℕ
rules_from run depth end = tabulate_from depth (end - depth) (rule_at run)

-- of the list at a depth the states, ranks, costs and rules stay, and the limits do
pub record ListKept (depth : ℕ) (run run' : Run) : Type 0 where
  pub states : (j : ℕ) → j < suc depth → state_at run' j ≡ state_at run j
  pub ranks : (j : ℕ) → j < suc depth → rank_at run' j ≡ rank_at run j
  pub costs : (j : ℕ) → j < suc depth → cost_at run' j ≡ cost_at run j
  pub rules : (j : ℕ) → j < depth → rule_at run' j ≡ rule_at run j
  pub threshold_kept : run'.threshold ≡ run.threshold
  pub allowance_kept : run'.allowance ≡ run.allowance
  pub steps_kept : run'.steps ≡ run.steps

-- another tally is carried, and nothing else has changed
pub record Carried (tally : Tally) (run run' : Run) : Type 0 where
  pub told : run' ≡ record run { tally = tally }

-- the list with one rule more stands behind the list at a depth, and the tally and a plan's steps are as they were
pub record Put (depth rule word rank cost : ℕ) (run run' : Run) : Type 0 where
  pub state : state_at run' (suc depth) ≡ word
  pub ranked : rank_at run' (suc depth) ≡ rank
  pub cost_told : cost_at run' (suc depth) ≡ cost
  pub ruled : rule_at run' depth ≡ rule
  pub kept : ListKept depth run run'
  pub tally_kept : run'.tally ≡ run.tally
  pub plan_kept : run'.plan_steps ≡ run.plan_steps
