-- Laws of figures as numbers: numbers and the mark (`below_at`, `below-mark`, `below-number`), the figure of an entry
-- is its cost and its estimate together (`entry-figure`), the figure by the largest entry is the largest figure
-- (`larger-figure`), table by table (`Left`), and what the sums of the first two entries tell of it (`first-sum`,
-- `second-sum`, `one-sum`, `two-sums`); a figure that is settled is late (`settled-late`). The search rests on these.
use mathlib.Core.Path.{◌≡◌, refl, sym, ap, ◌∙◌}
use mathlib.Core.Logic.{inr, ⊎_elim}
use mathlib.Core.Bool.{Bool, true, false, cond, ◌&&◌}
use mathlib.Core.List.{List}
use Prim.Native.Nat.{ℕ, zero, suc, ◌+◌, ◌-◌, ◌/◌, ◌%◌, ◌≤◌, ◌<◌, max}
use native.Mathlib.Omega.{arith}
use lib.Dec.{ltb, leb}
use lib.ListN.{get_or}
use borrow.Author.Tests.{ltb-true, lt-ltb, le-ltb, leb-true}
use Rattle.basics.specs.Marks as marks
use Rattle.basics.proofs.Comparing.{below?}
use Rattle.basics.proofs.Truth.{and-true}
use Rattle.words.specs.Changes.{RanksLow}
use Rattle.rounds.specs.Systems.{mark, at, plus}
use Rattle.rounds.proofs.EstimateLaws.{mark-at, at-injective}
use Rattle.figures.specs.Figures.{number_below, entry_estimate, no_figure, figure_of, entry_figure, largest_at}
use Rattle.figures.specs.Figures.{StandsFor}

module _ (top x : ℕ) where
  pub below_at : x < top → number_below top x ≡ at x
  below_at l = ap (λ (b : Bool). cond b (at x) mark) (lt-ltb x top l)

  pub below-mark : top ≤ x → number_below top x ≡ mark
  below-mark l = ap (λ (b : Bool). cond b (at x) mark) (le-ltb x top l)

  -- what gives a number is below the top one, and is it
  pub below-number : (m : ℕ) → number_below top x ≡ at m → (x < top) × (x ≡ m)
  below-number m e = go (ltb x top) refl e
    where
      go : (t : Bool) → ltb x top ≡ t → cond t (at x) mark ≡ at m → (x < top) × (x ≡ m)
      go true l q = (ltb-true x top l, at-injective x m q)
      go false l q = absurd (mark-at m q)

pub figure_at_lem : (x : ℕ) → x < no_figure → figure_of x ≡ at x
figure_at_lem x l = below_at no_figure x l

pub figure-mark : (x : ℕ) → no_figure ≤ x → figure_of x ≡ mark
figure-mark x l = below-mark no_figure x l

module _ (cost entry : ℕ) where
  -- below the mark the entry is added to the cost, and the mark makes no figure
  pub figure-sum : entry < marks.mark → entry_figure cost entry ≡ cost + entry
  unfolding entry_figure
  figure-sum l = ap (λ (b : Bool). cond b (cost + entry) no_figure) (lt-ltb entry marks.mark l)

  pub figure-none : marks.mark ≤ entry → entry_figure cost entry ≡ no_figure
  unfolding entry_figure
  figure-none l = ap (λ (b : Bool). cond b (cost + entry) no_figure) (le-ltb entry marks.mark l)

  -- so it is the figure of the estimate
  pub entry-figure : cost ≤ 8589934592 → figure_of (entry_figure cost entry) ≡ plus cost (entry_estimate entry)
  entry-figure low =
      ⊎_elim
      (λ l.
      ap figure_of (figure-sum l) ∙ figure_at_lem (cost + entry) (omega arith)
      ∙ ap (plus cost) (sym (below_at marks.mark entry l)))
      (λ l.
      ap figure_of (figure-none l) ∙ figure-mark no_figure (omega arith)
      ∙ ap (plus cost) (sym (below-mark marks.mark entry l)))
      (below? entry marks.mark)

module _ (cost : ℕ) (low : cost ≤ 8589934592) where
  -- a larger entry gives no lower figure
  figure-rises : (x y : ℕ) → x ≤ y → entry_figure cost x ≤ entry_figure cost y
  figure-rises x y l =
      ⊎_elim
      (λ b. omega (arith, figure-sum cost y b, figure-sum cost x (omega arith)))
      (λ b.
      ⊎_elim (λ a. omega (arith, figure-none cost y b, figure-sum cost x a))
      (λ a. omega (arith, figure-none cost y b, figure-none cost x a)) (below? x marks.mark))
      (below? y marks.mark)

  pub larger-figure : (x y : ℕ) → max (entry_figure cost x) (entry_figure cost y) ≡ entry_figure cost (max x y)
  larger-figure x y =
      ⊎_elim
      (λ l.
      let m : max x y ≡ y = omega arith in
      omega (arith, figure-rises x y (omega arith), ap (entry_figure cost) m))
      (λ l. let m : max x y ≡ x = omega arith in omega (arith, figure-rises y x l, ap (entry_figure cost) m))
      (below? x y)

  -- an entry and the cost together, the mark taken as a number, are no more than the figure by a larger entry
  sum_below : (x y : ℕ) → x ≤ y → x ≤ marks.mark → cost + x ≤ entry_figure cost y
  sum_below x y l most =
      ⊎_elim (λ b. omega (arith, figure-sum cost y b)) (λ b. omega (arith, figure-none cost y b)) (below? y marks.mark)

  module _ (table : List ℕ) (ranks : ℕ) where
    -- the entries of the first two tables
    abbrev first : ℕ
    first = get_or table (ranks % 65536) 0

    abbrev second : ℕ
    second = get_or table (ranks / 65536 % 65536) 0

    pub first-sum :
        (maps : ℕ) → 0 < maps → cost + first ≤ cost + marks.mark
        → cost + first ≤ entry_figure cost (largest_at table ranks maps)
    unfolding largest_at
    first-sum zero some most = absurd (omega arith)
    first-sum (suc maps) some most = sum_below first _ (omega arith) (omega arith)

    pub second-sum :
        (maps : ℕ) → 1 < maps → cost + second ≤ cost + marks.mark
        → cost + second ≤ entry_figure cost (largest_at table ranks maps)
    unfolding largest_at
    second-sum zero some most = absurd (omega arith)
    second-sum (suc zero) some most = absurd (omega arith)
    second-sum (suc (suc maps)) some most = sum_below second _ (omega arith) (omega arith)

    -- with one table, or two, there is no other entry: below the mark their sums tell the figure
    pub one-sum :
        (T maps : ℕ) → T < marks.mark → cost + first ≤ T → maps ≤ 1 → 0 < maps
        → entry_figure cost (largest_at table ranks maps) ≤ T
    unfolding largest_at
    one-sum T zero low a few some = absurd (omega arith)
    one-sum T (suc zero) low a few some = omega (arith, figure-sum cost (max first 0) (omega arith))
    one-sum T (suc (suc maps)) low a few some = absurd (omega arith)

    pub two-sums :
        (T maps : ℕ) → T < marks.mark → cost + first ≤ T → maps ≤ 2 → 1 < maps → cost + second ≤ T
        → entry_figure cost (largest_at table ranks maps) ≤ T
    unfolding largest_at
    two-sums T zero low a few some b = absurd (omega arith)
    two-sums T (suc zero) low a few some b = absurd (omega arith)
    two-sums T (suc (suc zero)) low a few some b =
        omega (arith, figure-sum cost (max first (max second 0)) (omega arith))
    two-sums T (suc (suc (suc maps))) low a few some b = absurd (omega arith)

-- a figure that is settled is above the threshold and lowers nothing
pub settled-late :
    (T least f : ℕ) → (ltb T f && leb least f) ≡ true → (T < f) × (least ≤ f)
settled-late T least f e =
    let (a, b) = and-true (ltb T f) (leb least f) e in
    (ltb-true T f a, leb-true least f b)

-- where no overshoot is noted, the figure that stands for an entry's is it
pub first-exact :
    (T f cost entry : ℕ) → cost ≤ 8589934592 → StandsFor T no_figure f (entry_figure cost entry)
    → f ≡ entry_figure cost entry
first-exact T f cost entry low s = ⊎_elim (λ e. e) (λ late. omega (arith, late.1, late.2, most)) s
  where
    most : entry_figure cost entry ≤ no_figure
    most =
        ⊎_elim (λ l. omega (arith, figure-sum cost entry l)) (λ l. omega (arith, figure-none cost entry l))
        (below? entry marks.mark)

-- ---- the tables one after another

-- the figure has the largest of the entries passed, and the others stand at the ranks that are left
pub record Left (table : List ℕ) (cost ranks maps figure rest left : ℕ) : Type 0 where
  pub passed : ℕ
  pub told : figure ≡ entry_figure cost passed
  pub low : RanksLow (rest / 65536) left
  pub whole : max passed (largest_at table (rest / 65536) left) ≡ largest_at table ranks maps

-- the first two ranks
pub first-low : (ranks k : ℕ) → 0 < k → RanksLow ranks k → ranks % 65536 < 16384
first-low ranks zero some low = absurd (omega arith)
first-low ranks (suc k) some low = low.0

pub second-low : (ranks k : ℕ) → 1 < k → RanksLow ranks k → ranks / 65536 % 65536 < 16384
second-low ranks zero some low = absurd (omega arith)
second-low ranks (suc k) some low = first-low (ranks / 65536) k (omega arith) low.1

module _ (table : List ℕ) (cost ranks : ℕ) where
  -- the first one is passed
  pub left-first :
      (maps first : ℕ) → 0 < maps → RanksLow ranks maps
      → first ≡ entry_figure cost (get_or table (ranks % 65536) 0)
      → Left table cost ranks maps first ranks (maps - 1)
  unfolding largest_at
  left-first zero first some low e = absurd (omega arith)
  left-first (suc k) first some low e =
      let less : suc k - 1 ≡ k = omega arith in
      record {
        passed = get_or table (ranks % 65536) 0;
        told = e;
        low = rw less low.1;
        whole = ap (λ (n : ℕ). max (get_or table (ranks % 65536) 0) (largest_at table (ranks / 65536) n)) less;
      }

  module _ (maps figure rest : ℕ) where
    -- one more
    pub left-next :
        (left left' figure' : ℕ) → cost ≤ 8589934592 → left ≡ suc left' → Left table cost ranks maps figure rest left
        → figure' ≡ max figure (entry_figure cost (get_or table (rest / 65536 % 65536) 0))
        → Left table cost ranks maps figure' (rest / 65536) left'
    unfolding largest_at
    left-next zero left' figure' small some k e = absurd (omega arith)
    left-next (suc left) left' figure' small some k e =
        let less : left' ≡ left = omega arith in
        let next = get_or table (rest / 65536 % 65536) 0 in
        let behind = largest_at table (rest / 65536 / 65536) left in
        let grouped : max (max k.passed next) behind ≡ max k.passed (max next behind) = omega arith in
        record {
          passed = max k.passed next;
          told =
              e ∙ ap (λ (x : ℕ). max x (entry_figure cost next)) k.told
              ∙ larger-figure cost small k.passed next;
          low = rw less k.low.1;
          whole =
              ap (λ (n : ℕ). max (max k.passed next) (largest_at table (rest / 65536 / 65536) n)) less ∙ grouped
              ∙ k.whole;
        }

    -- the figure so far is no higher than that by all, and is it where none is left
    pub left_below :
        (left : ℕ) → cost ≤ 8589934592 → Left table cost ranks maps figure rest left
        → figure ≤ entry_figure cost (largest_at table ranks maps)
    left_below left small k =
        omega (
          arith,
          k.told,
          figure-rises cost small k.passed (largest_at table ranks maps) (omega (arith, k.whole)),
        )

    pub left-none :
        (left : ℕ) → left ≡ 0 → Left table cost ranks maps figure rest left
        → figure ≡ entry_figure cost (largest_at table ranks maps)
    unfolding largest_at
    left-none zero e k =
        let all : k.passed ≡ largest_at table ranks maps = omega (arith, k.whole) in
        k.told ∙ ap (entry_figure cost) all
    left-none (suc left) e k = absurd (omega arith)

    -- so one that is settled stands for it
    pub settled-stands :
        (T least left : ℕ) → cost ≤ 8589934592 → (ltb T figure && leb least figure) ≡ true
        → Left table cost ranks maps figure rest left
        → StandsFor T least figure (entry_figure cost (largest_at table ranks maps))
    settled-stands T least left small e k =
        let (above, no_lower) = settled-late T least figure e in
        inr (above, no_lower, left_below left small k)

    -- the entry that comes next is there
    pub left-low :
        (left : ℕ) → 0 < left → Left table cost ranks maps figure rest left → rest / 65536 % 65536 < 16384
    left-low left some k = first-low (rest / 65536) left some k.low
