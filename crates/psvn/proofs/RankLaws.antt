-- Ranks: a rank is below the number of states, and rank and state undo one another, for abstract states (`rank_below`,
-- `unrank-rank`, `unrank-abstract`, `rank-unrank`; their number is K to the power n) and for states
-- (`state-rank-below`, `unrank-state-rank`, `unrank-state-ok`, `state-rank-unrank`; L to the power n,
-- `state-count-power`). The rank order of states is the order of their labels, position 0 deciding first
-- (`state-rank-before`, `before-state-rank`), and states of one rank are equal (`same-state-rank`). Tables and
-- predecessors rest on these.
use mathlib.Core.Path.{◌≡◌, refl, sym}
use mathlib.Core.Bool.{true}
use mathlib.Core.List.{List}
use Prim.Native.Nat.{ℕ, ◌^◌, ◌<◌}
use Rattle.basics.specs.Digits.{span}
use Rattle.basics.proofs.Digits.{value-digits, span-power}
use Rattle.basics.proofs.Order.{Before, before-value, value_before, value-injective}
use Rattle.blocks.specs.Layout.{positions, labels, abstracts, label_count, abstract_count, abstract_states}
use Rattle.blocks.specs.Validity.{Headed}
use Rattle.blocks.specs.States.{state_ok, abstract_ok}
use Rattle.psvn.specs.Ranks.{rank, unrank, state_rank, unrank_state, state_count}
use Rattle.blocks.proofs.StateLaws.{labelled-below, labelled-digits, digits-labelled, state-length, state-label}
use Rattle.blocks.proofs.StateLaws.{some_label, some-abstract}

module _ (b : List ℕ) where
  pub states-span : span (abstract_count b) (positions b) ≡ abstract_states b
  unfolding abstract_count abstract_states
  states-span = span-power (abstract_count b) (abstracts b) (λ i. refl) (positions b)

  -- abstract states
  module _ (u : List ℕ) (ok : abstract_ok b u ≡ true) where
    pub rank_below : rank b u < abstract_states b
    unfolding rank
    rank_below = rw (sym states-span) (labelled-below (positions b) (abstract_count b) u ok)

    pub unrank-rank : unrank b (rank b u) ≡ u
    unfolding rank unrank
    unrank-rank = labelled-digits (positions b) (abstract_count b) u ok

  module _ (h : Headed b) where
    pub unrank-abstract : (k : ℕ) → abstract_ok b (unrank b k) ≡ true
    unfolding unrank
    unrank-abstract = digits-labelled (positions b) (abstract_count b) (some-abstract b h)

    pub rank-unrank : (k : ℕ) → k < abstract_states b → rank b (unrank b k) ≡ k
    unfolding rank unrank
    rank-unrank k l = value-digits (abstract_count b) (some-abstract b h) (positions b) k (rw states-span l)

  -- states: there are L to the power n
  pub state-count-power : state_count b ≡ labels b ^ positions b
  unfolding label_count state_count
  state-count-power = span-power (label_count b) (labels b) (λ i. refl) (positions b)

  module _ (s : List ℕ) (ok : state_ok b s ≡ true) where
    pub state-rank-below : state_rank b s < state_count b
    unfolding state_rank state_count
    state-rank-below = labelled-below (positions b) (label_count b) s ok

    pub unrank-state-rank : unrank_state b (state_rank b s) ≡ s
    unfolding state_rank unrank_state
    unrank-state-rank = labelled-digits (positions b) (label_count b) s ok

  module _ (h : Headed b) where
    pub unrank-state-ok : (k : ℕ) → state_ok b (unrank_state b k) ≡ true
    unfolding unrank_state
    unrank-state-ok = digits-labelled (positions b) (label_count b) (some_label b h)

    pub state-rank-unrank : (k : ℕ) → k < state_count b → state_rank b (unrank_state b k) ≡ k
    unfolding state_rank unrank_state state_count
    state-rank-unrank k l = value-digits (label_count b) (some_label b h) (positions b) k l

  -- the rank order of states is the order of their labels
  module _ (u v : List ℕ) (ou : state_ok b u ≡ true) (ov : state_ok b v ≡ true) where
    pub before-state-rank : Before (positions b) u v → state_rank b u < state_rank b v
    unfolding state_rank
    before-state-rank = before-value (label_count b) (positions b) u v (state-label b u ou)

    pub state-rank-before : state_rank b u < state_rank b v → Before (positions b) u v
    unfolding state_rank
    state-rank-before = value_before (label_count b) (positions b) u v (state-label b v ov)

    pub same-state-rank : state_rank b u ≡ state_rank b v → u ≡ v
    unfolding state_rank
    same-state-rank =
        value-injective (label_count b) (positions b) u v (state-length b u ou) (state-length b v ov)
        (state-label b u ou) (state-label b v ov)
