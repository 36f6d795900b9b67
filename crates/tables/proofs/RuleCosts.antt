-- The cost by one rule, as the code finds it: the rank that the rule's word leads to (`leads-to`), and no cost where
-- the rule does not apply (`no-cost`). `via` rests on these.
use mathlib.Core.Path.{◌≡◌, refl, sym, ap, ap₂, ◌∙◌}
use mathlib.Core.Bool.{true, false}
use mathlib.Core.List.{List}
use Prim.Native.Nat.{ℕ, ◌<◌}
use Rattle.blocks.specs.Layout.{positions, rules, abstract_states}
use Rattle.psvn.specs.Rules.{applies}
use Rattle.psvn.specs.Ranks.{unrank}
use Rattle.words.specs.Sides.{applies_word, step_word}
use Rattle.words.specs.Ranking.{rank_word, word_of}
use Rattle.distances.specs.Filling.{none, via}
use Rattle.distances.proofs.OneRule.{via-none}
use Rattle.tables.specs.Abstraction.{step_rank, graph_of, Ready}
use Rattle.tables.proofs.WordEdges.{word-applies, word-leads, step_in, step-out}

module _
    (a code weights : List ℕ) (ready : Ready a code weights)
    (u w r : ℕ) (e : w ≡ word_of a u) (l : r < rules a) where
  applied : applies_word code r w ≡ applies a r (unrank a u)
  applied = ap (applies_word code r) e ∙ word-applies a code weights ready u r l

  pub no-cost : (t : List ℕ) → applies_word code r w ≡ false → via (graph_of a) t u r ≡ none
  no-cost t h = via-none (graph_of a) t u r (step_rank a u r) refl
      (step-out a code weights ready u r l (sym applied ∙ h))

  -- the rank v of the word m that the rule makes
  pub leads-to :
      (n m v : ℕ) → applies_word code r w ≡ true → n ≡ positions a → m ≡ step_word code r w → v ≡ rank_word weights n m
      → (v ≡ step_rank a u r) × (v < abstract_states a)
  leads-to n m v h p q d =
      let k = sym applied ∙ h in
      let i : v ≡ step_rank a u r =
      d ∙ ap₂ (rank_word weights) p (q ∙ ap (step_word code r) e) ∙ word-leads a code weights ready u r l k in
      (i, rw i (step_in a code weights ready u r l k))
