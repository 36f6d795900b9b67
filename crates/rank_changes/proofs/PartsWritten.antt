-- Parts written one after another: what a part adds (`part_adds_lem`), which stays while others are written
-- (`added-kept`); none of them (`parts_none`), and one position more, whose row is a part (`part-more`) or adds nothing
-- (`plain_more`). The loop over positions, and the change of a rule, rest on these.
use Rattle.std.proofs.Common.{◌≡◌, ℕ, zero, suc, ◌+◌, ◌*◌, ◌/◌, ◌%◌, ◌^◌, ◌<◌, ◌≤◌, false, eqb, List, get_or, sym, refl}
use Rattle.std.proofs.Common.{ap, ◌∙◌, subst, ap₂, add-zero, add-one, arith, eqb-true}
use borrow.Author.Tests.{eqb-false, not-false}
use Rattle.basics.specs.Sums.{sum_to}
use Rattle.basics.proofs.Truth.{or-false}
use Rattle.basics.proofs.Bounded.{all-at}
use Rattle.basics.proofs.Parts.{outside-none, outside-then, outside-within}
use Rattle.words.specs.Packing.{digit}
use Rattle.words.specs.Changes.{change_place, part_place, part_adds, added_to}
use Rattle.words.proofs.WordDigits.{digit_shift, digit_lt}
use Rattle.rank_changes.specs.Rows.{entry}
use Rattle.rank_changes.specs.Parts.{is_part, PartPlaced, PartsPlaced}

-- what the first j parts add stays where they stay
pub added-kept :
    (changes changes' : List ℕ) (r w j : ℕ)
    → ((k : ℕ) → change_place r + 1 ≤ k → k < change_place r + 1 + 17 * j → get_or changes' k 0 ≡ get_or changes k 0)
    → added_to changes' r w j ≡ added_to changes r w j
unfolding added_to part_adds
added-kept changes changes' r w zero same = refl
added-kept changes changes' r w (suc j) same =
    let k = part_place r j in
    let x = w / 2 ^ (get_or changes k 0 % 64) in
    ap₂ ◌+◌ (added-kept changes changes' r w j (λ k a c. same k a (omega arith)))
    (ap (λ (y : ℕ). get_or changes' (k + 1 + w / 2 ^ (y % 64) % 16) 0) (same k (omega arith) (omega arith))
    ∙ same (k + 1 + x % 16) (omega arith) (omega arith))

-- a part adds what its row says of the label at its position
part_adds_lem :
    {rows : List ℕ} {p at : ℕ} {changes₀ changes₁ : List ℕ} → p < 16 → PartPlaced rows p at changes₀ changes₁ → (w : ℕ)
    → part_adds changes₁ at w ≡ entry rows p (digit w p)
unfolding part_adds
part_adds_lem {p = p} {at = at} {changes₁ = changes₁} l part w =
    let shift : get_or changes₁ at 0 % 64 ≡ 4 * p = omega (arith, part.shift) in
    ap (λ (y : ℕ). get_or changes₁ (at + 1 + w / 2 ^ y % 16) 0) shift
    ∙ ap (λ (x : ℕ). get_or changes₁ (at + 1 + x) 0) (digit_shift w p)
    ∙ part.adds (digit w p) (digit_lt w p)

module _ {rows : List ℕ} {lead r : ℕ} where
  pub parts_none : (changes : List ℕ) → PartsPlaced rows lead r 0 0 changes changes
  unfolding added_to
  parts_none changes =
      record {
        some_part = λ l. omega arith;
        few = omega arith;
        added = λ w. refl;
        changes = outside-none (change_place r + 1) (change_place r + 273) changes;
      }

  pub parts-as :
      {p p' count : ℕ} {changes₀ changes₁ : List ℕ} → p ≡ p' → PartsPlaced rows lead r p count changes₀ changes₁
      → PartsPlaced rows lead r p' count changes₀ changes₁
  parts-as {count = count} {changes₀ = changes₀} {changes₁ = changes₁} =
      subst (λ (p : ℕ). PartsPlaced rows lead r p count changes₀ changes₁)

  module _ {p count : ℕ} {changes₀ changes₁ : List ℕ} (parts : PartsPlaced rows lead r p count changes₀ changes₁) where
    pub part-more :
        {changes₂ : List ℕ} → p < 16 → PartPlaced rows p (part_place r count) changes₁ changes₂
        → PartsPlaced rows lead r (p + 1) (count + 1) changes₀ changes₂
    unfolding added_to
    part-more {changes₂} l part =
        record {
          some_part = λ m. omega arith;
          few = omega (arith, parts.few);
          added = λ w.
              ap (added_to changes₂ r w) (add-one count)
              ∙ ap₂ ◌+◌
              (added-kept changes₁ changes₂ r w count (λ k a c. part.changes.before k (omega arith)) ∙ parts.added w)
              (part_adds_lem l part w)
              ∙ ap (sum_to (λ k. entry rows k (digit w k))) (sym (add-one p));
          changes =
              outside-then parts.changes
              (outside-within (change_place r + 1) (change_place r + 273) (omega arith) (omega (arith, parts.few))
              part.changes);
        }

    pub plain_more : is_part rows lead p ≡ false → PartsPlaced rows lead r (p + 1) count changes₀ changes₁
    plain_more plain =
        let parted = or-false (eqb p lead) _ plain in
        record {
          some_part = λ m. parts.some_part (let other = eqb-false p lead parted.0 in omega arith);
          few = omega (arith, parts.few);
          added = λ w.
              let none =
              eqb-true (entry rows p (digit w p)) 0
              (all-at (λ x. eqb (entry rows p x) 0) 16 (not-false _ parted.1) (digit w p) (digit_lt w p)) in
              let sum : ℕ → ℕ = sum_to (λ k. entry rows k (digit w k)) in
              parts.added w ∙ sym (add-zero (sum p)) ∙ ap (λ (y : ℕ). sum p + y) (sym none) ∙ ap sum (sym (add-one p));
          changes = parts.changes;
        }
