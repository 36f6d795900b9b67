-- A candidate that the rule's test, its step and the words of the ranks confirm is a state that the rule takes to
-- another (`candidate-lowers`). The fast pass of the fill lowers no entry but by this.
use mathlib.Core.Path.{◌≡◌, sym, ◌∙◌}
use mathlib.Core.Bool.{Bool, true}
use mathlib.Core.List.{List}
use Prim.Native.Nat.{ℕ, ◌<◌}
use native.Mathlib.Omega.{arith}
use lib.ListN.{length, get_or}
use Rattle.blocks.specs.Layout.{rules, abstract_states}
use Rattle.words.specs.Sides.{applies_word, step_word}
use Rattle.words.specs.Ranking.{word_of}
use Rattle.distances.specs.Filling.{Good, Lowering}
use Rattle.tables.specs.Abstraction.{graph_of, Ready}
use Rattle.tables.proofs.WordEdges.{few, word-edge}
use Rattle.filling.specs.RankWords.{Ranked}

module _
    (a code weights ranked table : List ℕ)
    (ready : Ready a code weights) (holds : Ranked a ranked) (good : Good (graph_of a) table)
    (r v : ℕ) (r_in : r < rules a) (v_in : v < abstract_states a) where
  -- the rank, and the answers of the tests, as whoever tests has them
  pub candidate-lowers :
      (u candidate made : ℕ) (answer : Bool) → u < length table → get_or ranked u 0 ≡ candidate
      → answer ≡ applies_word code r candidate → answer ≡ true
      → made ≡ step_word code r candidate → made ≡ get_or ranked v 0
      → Lowering (graph_of a) table u r v
  candidate-lowers u candidate made answer l e tested applies stepped leads =
      let u_in : u < abstract_states a = omega (arith, good.len) in
      let same : candidate ≡ word_of a u = sym e ∙ holds.word u u_in in
      record {
        small = few a code weights ready;
        good = good;
        u_in = u_in;
        r_in = r_in;
        v_in = v_in;
        edge =
            word-edge a code weights ready u r r_in v v_in (rw same at (sym tested ∙ applies))
            (rw same at (sym stepped ∙ leads ∙ holds.word v v_in));
      }
