-- Relabelling twice changes nothing more, of a block (`relabel-twice`) and of a state (`relabel-state-twice`): the
-- relabelled block's map is the identity (`identity-state`). What a table promises of the relabelled block's own states
-- rests on `identity-state`.
use mathlib.Core.Path.{◌≡◌, refl, sym, ap, ap₂, ◌∙◌}
use mathlib.Core.Bool.{true}
use mathlib.Core.List.{List, ◌∷◌, ◌++◌}
use Prim.Native.Nat.{ℕ, ◌≤◌, ◌<◌}
use native.Mathlib.Omega.{arith}
use lib.ListN.{get_or}
use borrow.Author.Tests.{ltb-true}
use Rattle.basics.proofs.Lists.{tabulate-ext, joined-ext, same-list}
use Rattle.blocks.specs.Terms.{term_of, term_ok}
use Rattle.blocks.specs.Layout.{positions, rules, goals, label_count, map_at, left_of, right_of, goal_of, relabel_head}
use Rattle.blocks.specs.Validity.{side_ok, Valid}
use Rattle.blocks.specs.States.{state_ok}
use Rattle.psvn.specs.Relabelling.{relabel_term, relabel_side, relabel_rule, relabel_goal, relabel_rules, relabel_goals}
use Rattle.psvn.specs.Relabelling.{relabel_block, relabel_state}
use Rattle.blocks.proofs.TermCases.{View, label, variable, dash, refused, view, is-label}
use Rattle.blocks.proofs.Accepted.{map_below, left-side, right_side, goal-side, side-term}
use Rattle.blocks.proofs.StateLaws.{state-length, state-label}
use Rattle.psvn.proofs.Relabelled.{positions-relabelled, abstracts-relabelled, rules-relabelled}
use Rattle.psvn.proofs.Relabelled.{goals-relabelled, label-count-relabelled, map-relabelled, cost-relabelled}
use Rattle.psvn.proofs.Relabelled.{left-relabelled, right-relabelled, goal-relabelled, relabelled-labels}
use Rattle.psvn.proofs.Relabelled.{relabelled-label}
use Rattle.psvn.proofs.Homomorphism.{relabel-label, relabel-other, map-small}
use Rattle.psvn.proofs.Stepping.{relabelled-state, abstract_states_lem}

-- a relabelled block, by its three parts
block-parts : (b : List ℕ) → relabel_block b ≡ relabel_head b ++ (relabel_rules b ++ relabel_goals b)
unfolding relabel_block
block-parts b = refl

-- the relabelled block's map is the identity
pub identity-state : (b u : List ℕ) → state_ok (relabel_block b) u ≡ true → relabel_state (relabel_block b) u ≡ u
identity-state b u ok =
    let a = relabel_block b in
    same-list (positions a) (relabel_state a u) u (relabelled-labels a u) (state-length a u ok) (λ i l.
    relabelled-label a u i l
    ∙ map-relabelled b i (get_or u i 0) (rw (sym (label-count-relabelled b i)) (state-label a u ok i l)))

module _ (b : List ℕ) (v : Valid b) where
  -- a relabelled term stays as it is under the identity
  term-fixed :
      (i t : ℕ) → i < positions b → term_ok (label_count b i) (term_of t) ≡ true
      → relabel_term (map_at (relabel_block b) i) (relabel_term (map_at b i) t) ≡ relabel_term (map_at b i) t
  term-fixed i t l ok = go (view t)
    where
      other : 16 ≤ t → relabel_term (map_at (relabel_block b) i) (relabel_term (map_at b i) t)
          ≡ relabel_term (map_at b i) t
      other a = rw (relabel-other (map_at b i) t a) (relabel-other (map_at (relabel_block b) i) t a)

      go : View t → relabel_term (map_at (relabel_block b) i) (relabel_term (map_at b i) t)
          ≡ relabel_term (map_at b i) t
      go (label a) =
          let k : t < label_count b i = ltb-true t (label_count b i) (rw (is-label t a) at ok) in
          rw (relabel-label (map_at b i) t a)
          (relabel-label (map_at (relabel_block b) i) (map_at b i t) (map-small b v i t l k)
          ∙ map-relabelled b i (map_at b i t) (map_below b v i t k))
      go (variable a c) = other a
      go (dash e) = other (omega arith)
      go (refused a c) = other (omega arith)

  -- and so do the sides, the rules and the goals
  side-twice :
      (side side' : ℕ → ℕ) → side_ok b side ≡ true
      → ((i : ℕ) → i < positions b → side' i ≡ relabel_term (map_at b i) (side i))
      → relabel_side (relabel_block b) side' ≡ relabel_side b side
  unfolding relabel_side
  side-twice side side' ok mapped =
      rw (positions-relabelled b)
      (tabulate-ext (positions b) (λ i. relabel_term (map_at (relabel_block b) i) (side' i))
      (λ i. relabel_term (map_at b i) (side i)) (λ i l.
      ap (relabel_term (map_at (relabel_block b) i)) (mapped i l) ∙ term-fixed i (side i) l (side-term b side ok i l)))

  rule-twice : (r : ℕ) → r < rules b → relabel_rule (relabel_block b) r ≡ relabel_rule b r
  unfolding relabel_rule
  rule-twice r l =
      ap₂ (λ (x : ℕ) (y : List ℕ). x ∷ y) (cost-relabelled b r l)
      (ap₂ ◌++◌ (side-twice (left_of b r) (left_of (relabel_block b) r) (left-side b v r l) (left-relabelled b r l))
      (side-twice (right_of b r) (right_of (relabel_block b) r) (right_side b v r l) (right-relabelled b r l)))

  goal-twice : (g : ℕ) → g < goals b → relabel_goal (relabel_block b) g ≡ relabel_goal b g
  unfolding relabel_goal
  goal-twice g l = side-twice (goal_of b g) (goal_of (relabel_block b) g) (goal-side b v g l) (goal-relabelled b g l)

  head-twice : relabel_head (relabel_block b) ≡ relabel_head b
  unfolding relabel_head
  head-twice = rw (positions-relabelled b, abstracts-relabelled b, rules-relabelled b, goals-relabelled b)

  rules-twice : relabel_rules (relabel_block b) ≡ relabel_rules b
  rules-twice = rw (rules-relabelled b)
      (joined-ext (relabel_rule (relabel_block b)) (relabel_rule b) (rules b) rule-twice)

  goals-twice : relabel_goals (relabel_block b) ≡ relabel_goals b
  goals-twice = rw (goals-relabelled b)
      (joined-ext (relabel_goal (relabel_block b)) (relabel_goal b) (goals b) goal-twice)

  pub relabel-twice : relabel_block (relabel_block b) ≡ relabel_block b
  relabel-twice =
      block-parts (relabel_block b) ∙ ap₂ ◌++◌ head-twice (ap₂ ◌++◌ rules-twice goals-twice) ∙ sym (block-parts b)

  pub relabel-state-twice :
      (s : List ℕ) → state_ok b s ≡ true → relabel_state (relabel_block b) (relabel_state b s) ≡ relabel_state b s
  relabel-state-twice s ok =
      identity-state b (relabel_state b s) (abstract_states_lem b (relabel_state b s) ∙ relabelled-state b v s ok)
