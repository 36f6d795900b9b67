-- Words that hold states of a block (`StateWord`): every rule makes such a word of it (`good-step`), of the ranks
-- that it leads to where it applies (`ranks-after`), which are low (`word-ranks-low`); a block's rules are few
-- (`rules-few`). The functions of the search read the tables and go from state to state by these.
use mathlib.Core.Path.{◌≡◌, sym, ap, ◌∙◌}
use mathlib.Core.Bool.{true}
use mathlib.Core.List.{List}
use Prim.Native.Nat.{ℕ, ◌≤◌, ◌<◌}
use Rattle.blocks.specs.Layout.{positions, rules}
use Rattle.psvn.proofs.Stepping.{step-state}
use Rattle.words.specs.Packing.{unpack}
use Rattle.words.specs.Sides.{applies_word, step_word}
use Rattle.words.specs.Compiled.{Compiled}
use Rattle.words.specs.Changes.{map_count, ranks_of, ranks_word, next_ranks, RanksLow}
use Rattle.words.proofs.Meaning.{applies-word, step-word, step_small}
use Rattle.preparing.specs.Prepared.{Prepared}
use Rattle.search.specs.Parts.{StateWord}

module _ {b code : List ℕ} (c : Compiled b code) where
  pub rules-few : rules b ≤ 64
  rules-few = c.valid.sized.headed.sizes.r_high

  pub good-step : (r w : ℕ) → r < rules b → StateWord b w → StateWord b (step_word code r w)
  good-step r w l g =
      record {
        small = step_small c r w l g.small;
        state = rw (step-word c r w l g.small) (step-state b c.valid r l (unpack (positions b) w) g.state);
      }

module _ {b code changes : List ℕ} (k : Prepared b code changes) where
  pub word-ranks-low : (w : ℕ) → StateWord b w → RanksLow (ranks_word changes (positions b) w) (map_count changes)
  word-ranks-low w g = k.ranks_low (unpack (positions b) w) g.state

  -- the ranks that a rule leads to are those of the word it makes
  pub ranks-after :
      (r w : ℕ) → r < rules b → StateWord b w → applies_word code r w ≡ true
      → next_ranks changes r (ranks_word changes (positions b) w) w
      ≡ ranks_word changes (positions b) (step_word code r w)
  ranks-after r w l g can =
      k.changed.next r w l g.state (sym (applies-word k.compiled r w l) ∙ can)
      ∙ ap (ranks_of changes (positions b)) (sym (step-word k.compiled r w l g.small))
