-- The ranks after a rule: rows that are `Balanced`, and then `Folded` with no constant left, give the ranks of the
-- state that the rule makes (`ranks-after`). The change of a rule so written is right (`change-placed`) and stays while
-- others are written (`change-kept`); together they are `Changed` (`changed`), by the weights at the front
-- (`singles-kept`).
use Rattle.std.proofs.Common.{◌≡◌, ℕ, ◌+◌, ◌*◌, ◌%◌, ◌<◌, ◌≤◌, true, List, length, get_or, set, sym, ap, ◌∙◌, arith}
use Rattle.std.proofs.Common.{get_or-set_other, get_or-set_same}
use native.Mathlib.Nat.{mod-add-mod}
use Rattle.basics.specs.Sums.{sum_to}
use Rattle.basics.proofs.Parts.{outside_set, outside-within}
use Rattle.basics.proofs.Sums.{sum-ext}
use Rattle.blocks.specs.Terms.{term_of}
use Rattle.blocks.specs.Layout.{positions, rules, left_of, right_of}
use Rattle.blocks.specs.Validity.{Valid}
use Rattle.blocks.specs.States.{state_ok}
use Rattle.blocks.proofs.StateLaws.{label-below}
use Rattle.psvn.specs.Rules.{given, applies, step}
use Rattle.psvn.proofs.Making.{rewritten-at}
use Rattle.psvn.proofs.Stepping.{step-state}
use Rattle.words.specs.Packing.{unpack}
use Rattle.words.specs.Changes.{word_span, changes_length, ranks_of, ranks_word, change_place, part_count, added_to}
use Rattle.words.specs.Changes.{next_ranks}
use Rattle.words.specs.Changes.{Changed}
use Rattle.words.proofs.WordDigits.{unpack-at}
use Rattle.rank_changes.specs.Rows.{entry, entry_of, Balanced}
use Rattle.rank_changes.specs.Folds.{Folded}
use Rattle.rank_changes.specs.Parts.{PartsPlaced}
use Rattle.rank_changes.specs.Changes.{SinglesCopied, ChangeAt, ChangePlaced, ChangesPlaced}
use Rattle.rank_changes.proofs.RowFolds.{balanced-folded}
use Rattle.rank_changes.proofs.PartsWritten.{added-kept}

-- the weights stay at the front
pub singles-kept :
    {b singles changes changes₀ changes₁ : List ℕ} → SinglesCopied singles changes changes₀
    → ChangesPlaced b singles changes₀ changes₁ → (k : ℕ) → k < 256 → get_or changes₁ k 0 ≡ get_or singles k 0
singles-kept copied placed k l = placed.front k (omega arith) ∙ copied.single k l

module _ (b : List ℕ) (valid : Valid b) where
  module _
      {singles : List ℕ} {r : ℕ} (lr : r < rules b) {rows₀ rows : List ℕ} {constant₀ : ℕ}
      (balanced : Balanced (positions b) (left_of b r) (right_of b r) singles rows₀ constant₀ (positions b))
      (folded : Folded (positions b) (left_of b r) rows₀ constant₀ rows 0) where
    -- what the right side gives are the labels of the state that the rule makes
    made :
        (s : List ℕ)
        → sum_to (λ k. entry singles k (given (positions b) (left_of b r) s k (term_of (right_of b r k)))) (positions b)
        ≡ sum_to (entry_of singles (step b r s)) (positions b)
    unfolding step
    made s =
        sum-ext _ _ (positions b)
        (λ k l. ap (entry singles k) (sym (rewritten-at (positions b) (left_of b r) (right_of b r) s k l)))

    ranks-after :
        (s : List ℕ) → state_ok b s ≡ true → applies b r s ≡ true
        → (ranks_of singles (positions b) s + sum_to (entry_of rows s) (positions b)) % word_span
        ≡ ranks_of singles (positions b) (step b r s)
    unfolding applies ranks_of
    ranks-after s ok can =
        let n = positions b in
        mod-add-mod (sum_to (entry_of singles s) n) word_span (sum_to (entry_of rows s) n)
        ∙ balanced-folded n (left_of b r) balanced folded s (label-below b valid.sized.headed s ok) can
        ∙ ap (λ (y : ℕ). y % word_span) (made s)

    module _
        {lead count : ℕ} {changes₀ changes₁ : List ℕ} (below : lead < positions b)
        (parts : PartsPlaced rows lead r (positions b) count changes₀ changes₁)
        (room : length changes₀ ≡ changes_length) where
      abbrev written : List ℕ
      written = set changes₁ (change_place r) count

      count_is : part_count written r ≡ count
      count_is =
          get_or-set_same changes₁ (change_place r) count 0
          (omega (arith, valid.sized.headed.sizes.r_high, parts.changes.len))

      added_is : (w : ℕ) → added_to written r w count ≡ sum_to (entry_of rows (unpack (positions b) w)) (positions b)
      added_is w =
          added-kept changes₁ written r w count
          (λ k a c. get_or-set_other changes₁ (change_place r) k count 0 (λ e. omega arith))
          ∙ parts.added w
          ∙ sum-ext _ _ (positions b) (λ k l. ap (entry rows k) (sym (unpack-at (positions b) w k l)))

      next-is :
          (w : ℕ) → state_ok b (unpack (positions b) w) ≡ true → applies b r (unpack (positions b) w) ≡ true
          → next_ranks written r (ranks_word singles (positions b) w) w
          ≡ ranks_of singles (positions b) (step b r (unpack (positions b) w))
      unfolding next_ranks
      next-is w ok can =
          let k = ranks_word singles (positions b) w in
          ap (λ (a : ℕ). (k + a) % word_span) (ap (added_to written r w) count_is ∙ added_is w)
          ∙ ranks-after (unpack (positions b) w) ok can

      change-right : ChangePlaced b singles r changes₀ written
      change-right =
          record {
            change = record {
              some_part = omega (arith, count_is, parts.some_part below);
              few = omega (arith, count_is, parts.few, valid.sized.headed.sizes.n_high);
              next = next-is;
            };
            changes =
                outside_set (change_place r) count (omega arith) (omega arith)
                (outside-within (change_place r) (change_place r + 273) (omega arith) (omega arith) parts.changes);
          }

  -- the change of rule r, its numbers by other names
  pub change-placed :
      {singles rows₀ rows changes₀ changes₁ : List ℕ} {r n constant₀ lead count : ℕ} {left right : ℕ → ℕ} → r < rules b
      → n ≡ positions b → left ≡ left_of b r → right ≡ right_of b r
      → Balanced n left right singles rows₀ constant₀ n
      → Folded n left rows₀ constant₀ rows 0
      → lead < n → PartsPlaced rows lead r n count changes₀ changes₁
      → length changes₀ ≡ changes_length → ChangePlaced b singles r changes₀ (set changes₁ (change_place r) count)
  change-placed lr e f g balanced folded below parts room =
      change-right lr (rw (e, f, g) at balanced) (rw (e, f) at folded) (omega arith) (rw e at parts) room

  -- the ranks go by the weights at the front
  pub ranks-front :
      (singles changes : List ℕ) → ((k : ℕ) → k < 256 → get_or changes k 0 ≡ get_or singles k 0) → (s : List ℕ)
      → state_ok b s ≡ true → ranks_of changes (positions b) s ≡ ranks_of singles (positions b) s
  unfolding ranks_of
  ranks-front singles changes same s ok =
      ap (λ (x : ℕ). x % word_span)
      (sum-ext (entry_of changes s) (entry_of singles s) (positions b)
      (λ p l.
      let x = label-below b valid.sized.headed s ok p l in
      same (16 * p + get_or s p 0) (omega (arith, valid.sized.headed.sizes.n_high))))

  pub changed :
      {singles changes changes₀ changes₁ : List ℕ} → SinglesCopied singles changes changes₀
      → ChangesPlaced b singles changes₀ changes₁ → Changed b changes₁
  changed {singles} {changes₁ = changes₁} copied placed =
      record {
        some_part = λ r l. (placed.change r l).some_part;
        few = λ r l. (placed.change r l).few;
        next = λ r w l ok can.
            let s = unpack (positions b) w in
            let same = singles-kept copied placed in
            ap (λ (k : ℕ). next_ranks changes₁ r k w) (ranks-front singles changes₁ same s ok)
            ∙ (placed.change r l).next w ok can
            ∙ sym (ranks-front singles changes₁ same (step b r s) (step-state b valid r l s ok));
      }

-- a change stays where its elements stay
pub change-kept :
    {b singles changes changes' : List ℕ} (r : ℕ)
    → ((k : ℕ) → change_place r ≤ k → k < change_place r + 273 → get_or changes' k 0 ≡ get_or changes k 0)
    → ChangeAt b singles changes r → ChangeAt b singles changes' r
unfolding next_ranks
change-kept {b} {singles} {changes} {changes'} r same change =
    record {
      some_part = omega (arith, counted, change.some_part);
      few = omega (arith, counted, change.few);
      next = λ w ok can.
          let k = ranks_word singles (positions b) w in
          ap (λ (a : ℕ). (k + a) % word_span)
          (ap (added_to changes' r w) counted
          ∙ added-kept changes changes' r w (part_count changes r)
          (λ k a c. same k (omega arith) (omega (arith, change.few))))
          ∙ change.next w ok can;
    }
  where
    counted : part_count changes' r ≡ part_count changes r
    counted = same (change_place r) (omega arith) (omega arith)
