-- What the entries of an exact table mean: each is the least cost from its state (`least-entry`), in the filled table
-- too (`filled_least`), which has an entry for each abstract state (`filled-length`) and passes the test
-- (`filled-passes`); so its estimates are lower bounds (`filled-low`, `filled-small`). Fixed tables are shown exact by
-- the first; what `par` prints, and the exercises, rest on the others.
use mathlib.Core.Path.{◌≡◌, sym, ◌∙◌}
use mathlib.Core.Bool.{true}
use mathlib.Core.List.{List}
use mathlib.Core.Logic.{inl, inr, ⊎_elim}
use Prim.Native.Nat.{ℕ, ◌≤◌, ◌<◌}
use native.Mathlib.Omega.{arith}
use lib.ListN.{length, get_or}
use Rattle.basics.specs.Lists.{Bytes}
use Rattle.basics.specs.Marks.{mark}
use Rattle.blocks.specs.Layout.{rules, rule_at, abstract_states, cost_of}
use Rattle.blocks.specs.Validity.{Valid}
use Rattle.blocks.specs.States.{state_ok, abstract_ok}
use Rattle.psvn.specs.Runs as runs
use Rattle.psvn.specs.Relabelling.{relabel_block, relabel_state}
use Rattle.psvn.specs.Ranks.{rank}
use Rattle.psvn.proofs.Relabelled.{rules-relabelled, cost-relabelled, abstract-states-relabelled}
use Rattle.psvn.proofs.Stepping.{relabelled-state, abstract_states_lem}
use Rattle.psvn.proofs.RelabelledValid.{relabelled_valid}
use Rattle.distances.specs.Graphs.{reaches, total_cost, Least, LeastTable}
use Rattle.distances.specs.LeastCosts.{least_costs}
use Rattle.distances.specs.Filling.{Cheap}
use Rattle.distances.proofs.LeastCostLaws.{least-costs, least-costs-pass}
use Rattle.tables.specs.Abstraction.{graph_of}
use Rattle.tables.specs.Tables.{entry, estimate, passes_test, LowerBound}
use Rattle.tables.proofs.Promises.{lower-bound}
use Rattle.tables.proofs.OverRanks.{rank-relabelled, rank-in, reaches-rank, cost-rank, relabelled-block}
use Rattle.filling.specs.FilledTables.{filled, CostBytes, LeastCost}

module _ (b : List ℕ) (v : Valid b) where
  -- over the graph and over states, a least cost is the same
  least-at-rank :
      (u : List ℕ) → state_ok (relabel_block b) u ≡ true → (e : ℕ)
      → Least (graph_of (relabel_block b)) (rank (relabel_block b) u) e → LeastCost (relabel_block b) u e
  least-at-rank u ok e h =
      let a = relabel_block b in
      let same : (rs : List ℕ) → reaches (graph_of a) (rank a u) rs ≡ runs.reaches a u rs =
      λ rs. reaches-rank a (relabelled-block b v) u rs ok in
      let costs : (rs : List ℕ) → total_cost (graph_of a) rs ≡ runs.total_cost a rs =
      cost-rank a (relabelled-block b v) in
      ⊎_elim
      (λ n. inl (n.0, λ rs w. n.1 rs (same rs ∙ w)))
      (λ n.
      inr (
        n.0,
        (n.1.0, sym (same n.1.0) ∙ n.1.1, sym (costs n.1.0) ∙ n.1.2),
        λ rs w.
            rw (sym (costs rs)) (n.2 rs (same rs ∙ w)),
      ))
      h

  -- the entry of each abstract state, in a table of least costs, is the least cost from it
  pub least-entry :
      (t : List ℕ) → LeastTable (graph_of (relabel_block b)) t
      → (u : List ℕ) → abstract_ok b u ≡ true → LeastCost (relabel_block b) u (entry b t u)
  unfolding entry
  least-entry t h u ok =
      let a = relabel_block b in
      let ok' = abstract_states_lem b u ∙ ok in
      rw (sym (rank-relabelled b u))
      (least-at-rank u ok' (get_or t (rank a u) 0) (h.least (rank a u) (rank-in a (relabelled-block b v) u ok')))

-- a block of bytes
pub cost-bytes : (b : List ℕ) → Bytes b → CostBytes b
unfolding cost_of
cost-bytes b small r l = small (rule_at b r)

-- the filled table, where costs are bytes
module _ (b : List ℕ) (v : Valid b) (bytes : CostBytes b) where
  pub few : abstract_states (relabel_block b) ≤ 16384
  few = (relabelled_valid b v).sized.headed.few

  pub cheap : Cheap (graph_of (relabel_block b))
  cheap r l =
      let l' : r < rules b = omega (arith, rules-relabelled b) in
      omega (arith, cost-relabelled b r l', bytes r l')

  pub filled_least :
      (u : List ℕ) → abstract_ok b u ≡ true → LeastCost (relabel_block b) u (entry b (filled b) u)
  unfolding filled
  filled_least =
      least-entry b v (least_costs (graph_of (relabel_block b))) (least-costs (graph_of (relabel_block b)) cheap few)

  pub filled-passes : passes_test b (filled b) ≡ true
  unfolding passes_test filled
  filled-passes = least-costs-pass (graph_of (relabel_block b)) cheap few

  pub filled-length : length (filled b) ≡ abstract_states b
  unfolding filled
  filled-length = (least-costs (graph_of (relabel_block b)) cheap few).len ∙ abstract-states-relabelled b

  -- what its estimates promise
  pub filled-low : LowerBound b (estimate b (filled b))
  filled-low = lower-bound b v (filled b) filled-passes

  pub filled-small : (s : List ℕ) → state_ok b s ≡ true → estimate b (filled b) s ≤ mark
  unfolding estimate
  filled-small s ok =
      ⊎_elim (λ n. let e = n.0 in omega arith) (λ n. let e = n.0 in omega arith)
      (filled_least (relabel_state b s) (relabelled-state b v s ok))
