-- Sums over rows grow with one of their numbers (`sum_one`). A row grows entry by entry (`added_none`, `added_more`),
-- and the sum with it (`sum_added`). Rows begun are balanced (`balanced-none`), also with one term more, a constant
-- (`constant-more`) or one with a position's label (`row_more`). Making and folding rows, and the ranks after a rule,
-- rest on these.
use Rattle.std.proofs.Common.{◌≡◌, ℕ, zero, suc, ◌+◌, ◌*◌, ◌%◌, ◌<◌, ◌≤◌, List, length, get_or, set, sym}
use Rattle.std.proofs.Common.{refl, ap, ◌∙◌, ⊎_elim, not-suc-le-zero, add_assoc, add-one, arith, get_or-set_other}
use Rattle.std.proofs.Common.{get_or-set_same, below_more}
use native.Mathlib.Nat.{mod-mod, mod-add-mod, add-mod-mod}
use Rattle.basics.specs.Sums.{sum_to}
use Rattle.basics.proofs.Comparing.{below?, same?}
use Rattle.basics.proofs.Parts.{outside-none, outside_set, outside-within}
use Rattle.basics.proofs.Sums.{sum-ext}
use Rattle.blocks.specs.Terms.{term_of}
use Rattle.blocks.specs.declared.labels.ConcreteLabel.{ConcreteLabel}
use Rattle.blocks.specs.declared.terms.Term.TheVariants.{Label}
use Rattle.psvn.specs.Rules.{given}
use Rattle.words.specs.Changes.{word_span}
use Rattle.rank_changes.specs.Rows.{entry, entry_of, RowsBegun, RowAdded, Balanced}

-- one of the numbers grows by d
pub sum_one :
    (f g : ℕ → ℕ) (p d n : ℕ) → p < n → ((k : ℕ) → k < n → (k ≡ p → ⊥) → g k ≡ f k)
    → g p % word_span ≡ (f p + d) % word_span → sum_to g n % word_span ≡ (sum_to f n + d) % word_span
sum_one f g p d zero l same more = absurd (not-suc-le-zero l)
sum_one f g p d (suc n) l same more =
    ⊎_elim
    (λ e. omega (arith, sum-ext g f n (λ k m. same k (omega arith) (λ q. omega arith)), ap g e, ap f e))
    (λ q. omega (arith, sum_one f g p d n (omega arith) (λ k m. same k (omega arith)) more, same n (omega arith) q))
    (same? n p)

-- a row that grows by d, entry by entry
module _ {d : ℕ → ℕ} {p : ℕ} where
  pub added_none : (rows : List ℕ) → RowAdded d p 0 rows rows
  added_none rows =
      record { summed = λ k l. absurd (not-suc-le-zero l); rows = outside-none (16 * p) (16 * p + 0) rows }

  pub added_more :
      {x : ℕ} {rows₀ rows : List ℕ} (v : ℕ) → length rows₀ ≡ 256 → p < 16 → x < 16
      → v ≡ (entry rows p x + d x) % word_span → RowAdded d p x rows₀ rows
      → RowAdded d p (x + 1) rows₀ (set rows (16 * p + x) v)
  added_more {x} {rows₀} {rows} v len l m e added =
      let at = 16 * p + x in
      record {
        summed =
            below_more _ _ (λ k h. get_or-set_other rows at (16 * p + k) v 0 (λ e. omega arith) ∙ added.summed k h)
            (get_or-set_same rows at v 0 (omega (arith, added.rows.len)) ∙ e
            ∙ ap (λ (y : ℕ). (y + d x) % word_span) (added.rows.behind at (omega arith)));
        rows =
            outside_set at v (omega arith) (omega arith)
            (outside-within (16 * p) (16 * p + (x + 1)) (omega arith) (omega arith) added.rows);
      }

  -- the sum grows by what is added for the label at position p
  pub sum_added :
      {rows₀ rows₁ : List ℕ} → RowAdded d p 16 rows₀ rows₁ → (n : ℕ) → p < n → (s : List ℕ)
      → ((k : ℕ) → k < n → get_or s k 0 < 16)
      → sum_to (entry_of rows₁ s) n % word_span ≡ (sum_to (entry_of rows₀ s) n + d (get_or s p 0)) % word_span
  sum_added {rows₀} {rows₁} added n l s small =
      sum_one (entry_of rows₀ s) (entry_of rows₁ s) p (d (get_or s p 0)) n l kept
      (ap (λ (y : ℕ). y % word_span) (added.summed (get_or s p 0) (small p l))
      ∙ mod-mod (entry_of rows₀ s p + d (get_or s p 0)) word_span)
    where
      kept : (k : ℕ) → k < n → (k ≡ p → ⊥) → entry_of rows₁ s k ≡ entry_of rows₀ s k
      kept k m q =
          let x = small k m in
          ⊎_elim (λ h. added.rows.before (16 * k + get_or s k 0) (omega arith))
          (λ h. added.rows.behind (16 * k + get_or s k 0) (omega arith))
          (below? k p)

-- the rows begun take all weights away
begun-sum :
    (singles rows s : List ℕ) → RowsBegun singles rows → (n : ℕ) → n ≤ 16 → ((p : ℕ) → p < n → get_or s p 0 < 16)
    → (sum_to (entry_of singles s) n + sum_to (entry_of rows s) n) % word_span ≡ 0
begun-sum singles rows s begun zero l small = refl
begun-sum singles rows s begun (suc n) l small =
    let k = 16 * n + get_or s n 0 in
    let x = small n (omega arith) in
    omega (
      arith,
      begun-sum singles rows s begun n (omega arith) (λ p m. small p (omega arith)),
      begun.taken k (omega arith),
    )

-- what is given grows by d, and so does the constant, or the sum of the rows
with_constant_lem :
    (weights constant rows given d given' : ℕ) → (weights + constant + rows) % word_span ≡ given % word_span
    → given' ≡ given + d
    → (weights + (constant + d) % word_span + rows) % word_span ≡ given' % word_span
with_constant_lem weights constant rows given d given' e f = omega arith

with_row :
    (weights constant rows rows' given d given' : ℕ) → (weights + constant + rows) % word_span ≡ given % word_span
    → given' ≡ given + d
    → rows' % word_span ≡ (rows + d) % word_span → (weights + constant + rows') % word_span ≡ given' % word_span
with_row weights constant rows rows' given d given' e f g =
    let x = weights + constant in
    sym (add-mod-mod x rows' word_span) ∙ ap (λ (y : ℕ). (x + y) % word_span) g ∙ add-mod-mod x (rows + d) word_span
    ∙ ap (λ (y : ℕ). y % word_span) (sym (add_assoc x rows d)) ∙ sym (mod-add-mod (x + rows) word_span d)
    ∙ ap (λ (y : ℕ). (y + d) % word_span) e ∙ mod-add-mod given word_span d ∙ ap (λ (y : ℕ). y % word_span) (sym f)

module _ (n : ℕ) (left right : ℕ → ℕ) (singles : List ℕ) (few : n ≤ 16) where
  pub balanced-none : {rows : List ℕ} → RowsBegun singles rows → Balanced n left right singles rows 0 0
  balanced-none {rows} begun =
      record {
        summed = λ s small. omega (arith, begun-sum singles rows s begun n few small);
      }

  module _ {rows : List ℕ} {constant i : ℕ} (b : Balanced n left right singles rows constant i) where
    -- what the first i + 1 terms give together
    more :
        (s : List ℕ) (d : ℕ) → entry singles i (given n left s i (term_of (right i))) ≡ d
        → sum_to (λ k. entry singles k (given n left s k (term_of (right k)))) (i + 1)
        ≡ sum_to (λ k. entry singles k (given n left s k (term_of (right k)))) i + d
    more s d e =
        let f : ℕ → ℕ = λ k. entry singles k (given n left s k (term_of (right k))) in
        ap (sum_to f) (add-one i) ∙ ap (λ (y : ℕ). sum_to f i + y) e

    pub constant-more :
        (c : ConcreteLabel) (x : ℕ) → term_of (right i) ≡ Label c → x ≡ c.0
        → Balanced n left right singles rows ((constant + entry singles i x) % word_span) (i + 1)
    constant-more c x e f =
        record {
          summed = λ s small.
              with_constant_lem (sum_to (entry_of singles s) n) constant (sum_to (entry_of rows s) n) _
              (entry singles i x) _
              (b.summed s small)
              (more s (entry singles i x)
              (ap (λ t. entry singles i (given n left s i t)) e ∙ ap (entry singles i) (sym f)));
        }

    pub row_more :
        {rows' : List ℕ} (p : ℕ) → p < n → ((s : List ℕ) → given n left s i (term_of (right i)) ≡ get_or s p 0)
        → RowAdded (entry singles i) p 16 rows rows' → Balanced n left right singles rows' constant (i + 1)
    row_more {rows'} p l label added =
        record {
          summed = λ s small.
              let d = entry singles i (get_or s p 0) in
              with_row (sum_to (entry_of singles s) n) constant (sum_to (entry_of rows s) n)
              (sum_to (entry_of rows' s) n)
              _ d _ (b.summed s small) (more s d (ap (entry singles i) (label s)))
              (sum_added added n l s small);
        }
