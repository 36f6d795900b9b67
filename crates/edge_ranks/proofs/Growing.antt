-- A list of ranks, label by label at one position (`grown-none`, `grown-more`, `grown-all`).
-- The code that adds a position's labels rests on these.
use mathlib.Core.Path.{◌≡◌, refl, sym, ap, ◌∙◌}
use mathlib.Core.Logic.{⊎_elim}
use Prim.Native.Nat.{ℕ, ◌+◌, ◌*◌, ◌%◌, ◌^◌, ◌≤◌, ◌<◌}
use native.Mathlib.Nat.{add-mul, one-mul, add_assoc, mod-add-mod, add-mod-mod}
use native.Mathlib.Omega.{arith}
use Rattle.basics.proofs.Comparing.{same?}
use Rattle.edge_ranks.specs.Lists.{Extended, LabelsAdded}

-- the labels below `label` have been added
pub record Grown (f : ℕ → ℕ) (label p count at : ℕ) (old now : ℕ → ℕ) : Type 0 where
  pub kept : (j : ℕ) → j < count → now j ≡ old j
  pub more :
      (l j : ℕ) → 1 ≤ l → l < label → j < count
      → (l * count + j < at) × (now (l * count + j) < 16384)
      × ((now (l * count + j) + old 0) % 16384 ≡ (old j + f (l * 16 ^ p)) % 16384)

-- what is added for a label
added :
    (x y b v : ℕ) → v ≡ (x + y) % 16384 → (w : ℕ) → (y + b) % 16384 ≡ w % 16384
    → (v < 16384) × ((v + b) % 16384 ≡ (x + w) % 16384)
added x y b v e w h = (
  omega arith,
  ap (λ (z : ℕ). (z + b) % 16384) e ∙ mod-add-mod (x + y) 16384 b ∙ ap (λ (z : ℕ). z % 16384) (add_assoc x y b)
      ∙ sym (add-mod-mod x (y + b) 16384) ∙ ap (λ (z : ℕ). (x + z) % 16384) h ∙ add-mod-mod x w 16384,
)

pub next-at : (count label at : ℕ) → at ≡ label * count → at + count ≡ (label + 1) * count
next-at count label at e = omega (arith, add-mul label 1 count, one-mul count)

module _ {f : ℕ → ℕ} {p count : ℕ} {old : ℕ → ℕ} where
  pub grown-none : (at : ℕ) → Grown f 1 p count at old old
  grown-none at = record { kept = λ j l. refl; more = λ l j a b. absurd (omega arith) }

  pub grown-more :
      {label at by : ℕ} {now next : ℕ → ℕ} → Grown f label p count at old now → Extended count at by now next
      → at ≡ label * count → count ≤ at → (by + old 0) % 16384 ≡ f (label * 16 ^ p) % 16384
      → Grown f (label + 1) p count (at + count) old next
  grown-more {label} {at} {by} {now} {next} g e i low h =
      record {
        kept = λ j l. e.kept j (omega arith) ∙ g.kept j l;
        more = λ l j a b m.
            ⊎_elim
            (λ q.
            let k : label * count + j ≡ at + j = omega arith in
            let v = e.more j m ∙ ap (λ (x : ℕ). (x + by) % 16384) (g.kept j m) in
            let r = added (old j) by (old 0) (next (at + j)) v (f (label * 16 ^ p)) h in
            rw q (rw k (omega arith, r.0, r.1)))
            (λ d.
            let r = g.more l j a (omega arith) m in
            let k = e.kept (l * count + j) r.0 in
            (omega (arith, r.0), omega (arith, r.1, k), ap (λ (x : ℕ). (x + old 0) % 16384) k ∙ r.2))
            (same? l label);
      }

  pub grown-all :
      {labels label at : ℕ} {now : ℕ → ℕ} → Grown f label p count at old now → labels ≤ label → at ≤ 16384 → count ≤ at
      → at ≡ label * count → LabelsAdded f labels p count at old now
  grown-all {labels} {label} {at} g l m n i =
      record {
        few = m;
        kept = λ j i. (omega arith, g.kept j i);
        more = λ k j a b i. g.more k j a (omega arith) i;
      }
