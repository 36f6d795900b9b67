-- Rules on words are the edges of the graph: for a compiled relabelled block and the word
-- of a rank, whether a rule applies (`word-applies`), the rank it leads to (`word-leads`),
-- the goal test (`word-goal`), and that a word which a rule takes to another rank's word
-- is an edge (`word-edge`). The costs by one rule, the test and the fill rest on these.
use mathlib.Core.Path.{◌≡◌, sym, ap, ◌∙◌}
use mathlib.Core.Bool.{true, false}
use mathlib.Core.List.{List}
use Prim.Native.Nat.{ℕ, ◌≤◌, ◌<◌}
use native.Mathlib.Nat.{le_refl}
use native.Mathlib.Omega.{arith}
use Rattle.blocks.specs.Layout.{positions, rules, goals, abstract_states}
use Rattle.blocks.specs.Validity.{Headed}
use Rattle.blocks.specs.States.{state_ok}
use Rattle.psvn.specs.Rules.{applies, step, meets}
use Rattle.psvn.specs.Relabelling.{relabel_state}
use Rattle.psvn.specs.Ranks.{rank, unrank}
use Rattle.psvn.proofs.Stepping.{step-state}
use Rattle.psvn.proofs.RankLaws.{unrank-abstract, rank-unrank}
use Rattle.words.specs.Packing.{unpack}
use Rattle.words.specs.Sides.{applies_word, step_word, meets_word}
use Rattle.words.specs.Ranking.{rank_word, word_of}
use Rattle.words.proofs.Meaning.{applies-word, step-word, cost-word, meets_word_lem, rank-word, unpack-word-of}
use Rattle.words.proofs.Meaning.{word-of-small}
use Rattle.distances.specs.Filling.{Cheap}
use Rattle.tables.specs.Abstraction.{step_rank, graph_of, Ready}
use Rattle.tables.proofs.OverRanks.{rank-in}

module _ (a code weights : List ℕ) (ready : Ready a code weights) where
  pub headed : Headed a
  headed = ready.relabelled.valid.sized.headed

  -- costs are bytes
  pub cheap : Cheap (graph_of a)
  cheap r l = let e = cost-word ready.compiled r l in omega arith

  pub few : abstract_states a ≤ 16384
  few = headed.few

  pub unranked : (u : ℕ) → state_ok a (unrank a u) ≡ true
  unranked u = ready.relabelled.abstract (unrank a u) ∙ unrank-abstract a headed u

  -- the word of a rank
  module _ (u : ℕ) where
    pub word-applies : (r : ℕ) → r < rules a → applies_word code r (word_of a u) ≡ applies a r (unrank a u)
    word-applies r l =
        applies-word ready.compiled r (word_of a u) l
        ∙ ap (applies a r) (unpack-word-of headed u)

    pub word-goal : meets_word code (goals a) (word_of a u) ≡ meets a (unrank a u)
    word-goal =
        meets_word_lem ready.compiled (word_of a u)
        ∙ ap (meets a) (unpack-word-of headed u)

    module _ (r : ℕ) (l : r < rules a) where
      made : unpack (positions a) (step_word code r (word_of a u)) ≡ step a r (unrank a u)
      made =
          step-word ready.compiled r (word_of a u) l (word-of-small headed u)
          ∙ ap (step a r) (unpack-word-of headed u)

      made-state : state_ok a (step a r (unrank a u)) ≡ true
      made-state = step-state a ready.relabelled.valid r l (unrank a u) (unranked u)

      step-applied : applies a r (unrank a u) ≡ true → step_rank a u r ≡ rank a (step a r (unrank a u))
      unfolding step_rank
      step-applied h = rw h

      -- where the rule applies, the rank of the word it makes
      pub word-leads :
          applies a r (unrank a u) ≡ true
          → rank_word weights (positions a) (step_word code r (word_of a u)) ≡ step_rank a u r
      word-leads h =
          let s = step a r (unrank a u) in
          rank-word ready.weighted (step_word code r (word_of a u)) (ap (state_ok a) made ∙ made-state)
          ∙ ap (λ (t : List ℕ). rank a (relabel_state a t)) made ∙ ap (rank a) (ready.relabelled.same s made-state)
          ∙ sym (step-applied h)

      pub step_in : applies a r (unrank a u) ≡ true → step_rank a u r < abstract_states a
      step_in h =
          rw (step-applied h) (rank-in a ready.relabelled (step a r (unrank a u)) made-state)

      -- where it does not apply, no rank
      pub step-out : applies a r (unrank a u) ≡ false → abstract_states a ≤ step_rank a u r
      unfolding step_rank
      step-out h = rw h (le_refl (abstract_states a))

      -- a rule that takes the word of u to the word of v is an edge from u to v
      pub word-edge :
          (v : ℕ) → v < abstract_states a → applies_word code r (word_of a u) ≡ true
          → step_word code r (word_of a u) ≡ word_of a v → step_rank a u r ≡ v
      word-edge v i h e =
          step-applied (sym (word-applies r l) ∙ h)
          ∙ ap (rank a) (sym made ∙ ap (unpack (positions a)) e ∙ unpack-word-of headed v)
          ∙ rank-unrank a headed v i
