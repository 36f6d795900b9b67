-- From states to ranks, for a relabelled block: where a rule leads in the graph
-- (`step-rank`, `no_step`), which lists reach a goal (`reaches-rank`) and what they
-- cost (`cost-rank`). The meaning of the test and of the fill is carried over by these.
use mathlib.Core.Path.{◌≡◌, refl, sym, ap, ap₂, ◌∙◌}
use mathlib.Core.Bool.{Bool, true, false, cond, ◌&&◌}
use mathlib.Core.List.{List, [], ◌∷◌}
use Prim.Native.Nat.{ℕ, ◌+◌, ◌<◌}
use native.Mathlib.Nat.{le_refl}
use lib.Dec.{ltb}
use borrow.Author.Tests.{ltb-true, lt-ltb, le-ltb}
use Rattle.blocks.specs.Layout.{rules, cost_of, abstract_count, abstract_states}
use Rattle.blocks.specs.Validity.{Valid}
use Rattle.blocks.specs.States.{labelled, state_ok, abstract_ok}
use Rattle.psvn.specs.Rules.{applies, step, meets}
use Rattle.psvn.specs.Runs as runs
use Rattle.psvn.specs.Relabelling.{relabel_block}
use Rattle.psvn.specs.Ranks.{rank, unrank}
use Rattle.psvn.proofs.Relabelled.{positions-relabelled, abstracts-relabelled}
use Rattle.psvn.proofs.Stepping.{step-state, abstract_states_lem}
use Rattle.psvn.proofs.RelabelTwice.{identity-state}
use Rattle.psvn.proofs.RelabelledValid.{relabelled_valid}
use Rattle.psvn.proofs.RankLaws.{rank_below, unrank-rank}
use Rattle.basics.specs.Digits.{value_to}
use Rattle.distances.specs.Graphs.{leads_on, reaches, total_cost}
use Rattle.tables.specs.Abstraction.{step_rank, graph_of, Relabelled}

-- the ranks of abstract states, and the states of the relabelled block
module _ (b : List ℕ) where
  pub rank-relabelled : (u : List ℕ) → rank (relabel_block b) u ≡ rank b u
  unfolding rank abstract_count
  rank-relabelled u =
      ap₂ (λ (k n : ℕ). value_to (λ i. k) u n) (abstracts-relabelled b) (positions-relabelled b)

-- a block whose states are its abstract states
module _ (a : List ℕ) (relabelled : Relabelled a) where
  module _ (u : List ℕ) (ok : state_ok a u ≡ true) where
    pub at-rank : unrank a (rank a u) ≡ u
    at-rank = unrank-rank a u (sym (relabelled.abstract u) ∙ ok)

    pub rank-in : rank a u < abstract_states a
    rank-in = rank_below a u (sym (relabelled.abstract u) ∙ ok)

    step_from : (r : ℕ) → step_rank a (rank a u) r ≡ cond (applies a r u) (rank a (step a r u)) (abstract_states a)
    unfolding step_rank
    step_from r =
        ap (λ (s : List ℕ). cond (applies a r s) (rank a (step a r s)) (abstract_states a)) at-rank

    -- a rule that applies leads to the rank of the state it makes
    pub step-rank : (r : ℕ) → applies a r u ≡ true → step_rank a (rank a u) r ≡ rank a (step a r u)
    step-rank r h = step_from r ∙ rw h

    -- and one that does not leads to no rank
    pub no_step : (r : ℕ) → applies a r u ≡ false → step_rank a (rank a u) r ≡ abstract_states a
    no_step r h = step_from r ∙ rw h

  pub reaches-rank :
      (u rs : List ℕ) → state_ok a u ≡ true → reaches (graph_of a) (rank a u) rs ≡ runs.reaches a u rs
  reaches-rank u [] ok = ap (meets a) (at-rank u ok)
  reaches-rank u (r ∷ rs) ok = go (ltb r (rules a)) refl (applies a r u) refl (reaches-rank (step a r u) rs)
    where
      go : (x : Bool) → ltb r (rules a) ≡ x → (y : Bool) → applies a r u ≡ y
          → (state_ok a (step a r u) ≡ true
          → reaches (graph_of a) (rank a (step a r u)) rs ≡ runs.reaches a (step a r u) rs)
          → (x && (leads_on (graph_of a) (rank a u) r && reaches (graph_of a) (step_rank a (rank a u) r) rs))
          ≡ (x && (y && runs.reaches a (step a r u) rs))
      go false e y d ih = refl
      go true e false d ih =
          rw (no_step u ok r d, le-ltb (abstract_states a) (abstract_states a) (le_refl (abstract_states a)))
      go true e true d ih =
          let k = step-state a relabelled.valid r (ltb-true r (rules a) e) u ok in
          rw (step-rank u ok r d, lt-ltb (rank a (step a r u)) (abstract_states a) (rank-in (step a r u) k)) (ih k)

  pub cost-rank : (rs : List ℕ) → total_cost (graph_of a) rs ≡ runs.total_cost a rs
  cost-rank [] = refl
  cost-rank (r ∷ rs) = ap (λ (c : ℕ). cost_of a r + c) (cost-rank rs)

-- the relabelled block is such a block, and each of its states its own relabelled state
relabelled-abstract : (b u : List ℕ) → state_ok (relabel_block b) u ≡ abstract_ok (relabel_block b) u
unfolding abstract_count
relabelled-abstract b u =
    abstract_states_lem b u
    ∙ ap₂ (λ (n k : ℕ). labelled n (λ i. k) u) (sym (positions-relabelled b)) (sym (abstracts-relabelled b))

pub relabelled-block : (b : List ℕ) → Valid b → Relabelled (relabel_block b)
relabelled-block b v =
    record { valid = relabelled_valid b v; abstract = relabelled-abstract b; same = identity-state b }
