-- Where a term takes its label from (`taken-variable`, `taken-dash`, `taken_refused`), and one term more of a side on
-- the way, in four cases: a constant (`constant-more`), a position that keeps its label (`kept_more`), a move
-- (`move-more`), and a variable that stands nowhere on the left (`unbound-more`). The functions that add a term rest on
-- these.
use mathlib.Core.Path.{◌≡◌, refl, sym, ap, ap₂, ◌∙◌}
use mathlib.Core.Logic.{◌⊎◌, ⊎_elim}
use mathlib.Core.Bool.{Bool, true, ◌&&◌}
use mathlib.Core.List.{List}
use Prim.Native.Nat.{ℕ, zero, suc, ◌+◌, ◌*◌, ◌%◌, ◌^◌, ◌≤◌, ◌<◌}
use native.Mathlib.Nat.{eq-or-lt_of_le, lt_of_le_of_lt, lt_of_lt_of_le, mod-eq_of_lt, pow-le-pow_right, zero-lt-suc}
use native.Mathlib.Nat.{zero-mul}
use native.Mathlib.Numerals.{add-one}
use native.Mathlib.Omega.{arith}
use lib.Bits.{bit_and, bit_or, and_le_r, and_zero_r, and_mask, or_comm, or_zero_r}
use lib.Dec.{eqb, lit<}
use lib.ListN.{get_or, get_or-eq_default}
use borrow.Author.Tests.{eq-eqb}
use Rattle.basics.specs.Bounded.{all, first}
use Rattle.basics.proofs.Bits.{or_assoc}
use Rattle.basics.proofs.Bounded.{all-ext, some-intro, first_holds}
use Rattle.basics.proofs.Truth.{and-right-true}
use Rattle.blocks.specs.Terms.{term_of}
use Rattle.blocks.specs.declared.labels.ConcreteLabel.{ConcreteLabel}
use Rattle.blocks.specs.declared.terms.Term.{Term}
use Rattle.blocks.specs.declared.terms.Term.TheVariants.{Label, Variable, Dash, Refused}
use Rattle.blocks.proofs.TermCases.{label-lt, variable-byte}
use Rattle.psvn.specs.Rules.{bound, given}
use Rattle.psvn.specs.TwoParts.{constant_allows, variable_allows, variable_agrees}
use Rattle.psvn.proofs.MatchingLaws.{parts_at}
use Rattle.words.specs.Packing.{digit, unpack}
use Rattle.words.specs.Sides.{moved, join_moves, move_agrees}
use Rattle.compiling.specs.PlacingSides.{TakenFrom, made_by, Begun}
use Rattle.compiling.specs.declared.placing_sides.Side.{Side}
use Rattle.words.proofs.WordDigits.{shifted, digit_lt, digit_and, joined-before, joined_at, joined-below, same_digits}
use Rattle.words.proofs.WordDigits.{unpack-length, unpack-at}

-- where a term takes its label from
module _ (n : ℕ) (left side : ℕ → ℕ) (i : ℕ) (li : i < n) where
  pub taken-variable :
      (v from : ℕ) → term_of (side i) ≡ Variable v → from ≡ first n (λ j. eqb (left j) v)
      → TakenFrom n left side i from
  unfolding bound
  taken-variable v from e f =
      record {
        label = λ s. ap (given n left s i) e ∙ ap (λ (k : ℕ). get_or s k 0) (sym f);
        free = λ y. ap (λ (t : Term). constant_allows t y) e;
        within = λ q.
            let stands : ℕ → Bool = λ j. eqb (left j) v in
            let here = ap (λ (g : ℕ → ℕ). g i) q ∙ sym (variable-byte (side i) v e) in
            omega (arith, f, (first_holds stands n (some-intro stands n i li (eq-eqb (left i) v here))).0);
      }

  -- another term, which takes it from its own position
  taken_own : (t : Term) → ((s : List ℕ) → given n left s i t ≡ get_or s i 0) → ((y : ℕ) → constant_allows t y ≡ true)
      → term_of (side i) ≡ t → TakenFrom n left side i i
  taken_own t gives free e =
      record {
        label = λ s. ap (given n left s i) e ∙ gives s;
        free = λ y. ap (λ (t : Term). constant_allows t y) e ∙ free y;
        within = λ q. li;
      }

  pub taken-dash : term_of (side i) ≡ Dash → TakenFrom n left side i i
  taken-dash = taken_own Dash (λ s. refl) (λ y. refl)

  pub taken_refused : term_of (side i) ≡ Refused → TakenFrom n left side i i
  taken_refused = taken_own Refused (λ s. refl) (λ y. refl)

or_swap : (a b c : ℕ) → bit_or (bit_or a b) c ≡ bit_or (bit_or a c) b
or_swap a b c = or_assoc a b c ∙ ap (bit_or a) (or_comm b c) ∙ sym (or_assoc a c b)

-- a word joined before the moves stands beside them
joined-moves : (v d w from to j : ℕ) → join_moves (bit_or v d) w from to j ≡ bit_or (join_moves v w from to j) d
unfolding join_moves
joined-moves v d w from to zero = refl
joined-moves v d w from to (suc j) =
    let m = moved w (digit from j) (digit to j) in
    let before = join_moves v w from to j in
    ap (λ (y : ℕ). bit_or y m) (joined-moves v d w from to j) ∙ or_swap before d m

-- the first j moves go by their own digits
moves-same :
    (v w from to from' to' j : ℕ) → ((k : ℕ) → k < j → digit from' k ≡ digit from k)
    → ((k : ℕ) → k < j → digit to' k ≡ digit to k)
    → join_moves v w from' to' j ≡ join_moves v w from to j
unfolding join_moves
moves-same v w from to from' to' zero f g = refl
moves-same v w from to from' to' (suc j) f g =
    ap₂ bit_or (moves-same v w from to from' to' j (λ k l. f k (omega arith)) (λ k l. g k (omega arith)))
    (ap₂ (moved w) (f j (omega arith)) (g j (omega arith)))

-- one move more, told by a digit more of each word
move-joined :
    (v w from to c f g : ℕ) → from < 16 ^ c → to < 16 ^ c → f < 16 → g < 16
    → join_moves v w (bit_or from (f * 16 ^ c)) (bit_or to (g * 16 ^ c)) (c + 1)
    ≡ bit_or (join_moves v w from to c) (digit w f * 16 ^ g)
unfolding join_moves moved
move-joined v w from to c f g lf lg hf hg =
    let from' = bit_or from (f * 16 ^ c) in
    let to' = bit_or to (g * 16 ^ c) in
    ap (join_moves v w from' to') (add-one c)
    ∙ ap₂ bit_or (moves-same v w from to from' to' c (joined-before c from f hf) (joined-before c to g hg))
    (ap₂ (λ (y z : ℕ). digit w y * 16 ^ z) (joined_at c from f hf lf) (joined_at c to g hg lg))

under_ones : (d : ℕ) → d < 16 → bit_and d 15 ≡ d
under_ones d h = and_mask d 4 ∙ mod-eq_of_lt h

last-or-before : (i k : ℕ) → k < i + 1 → (k ≡ i) ⊎ (k < i)
last-or-before i k l = eq-or-lt_of_le (omega arith)

-- one position more that keeps its label
kept-joined :
    (w keep i : ℕ) → keep < 16 ^ i
    → bit_and w (bit_or keep (15 * 16 ^ i)) ≡ bit_or (bit_and w keep) (digit w i * 16 ^ i)
kept-joined w keep i h =
    same_digits (i + 1) (bit_and w more) (bit_or (bit_and w keep) (digit w i * 16 ^ i))
    (lt_of_le_of_lt (and_le_r w more) (joined-below i keep 15 (lit< tt) h))
    (joined-below i (bit_and w keep) (digit w i) (digit_lt w i) kept) (λ k l.
    digit_and w more k ∙ ⊎_elim (λ e. rw e at_last) (λ m. before k m) (last-or-before i k l))
  where
    more : ℕ
    more = bit_or keep (15 * 16 ^ i)

    kept : bit_and w keep < 16 ^ i
    kept = lt_of_le_of_lt (and_le_r w keep) h

    at_last : bit_and (digit w i) (digit more i) ≡ digit (bit_or (bit_and w keep) (digit w i * 16 ^ i)) i
    at_last =
        ap (bit_and (digit w i)) (joined_at i keep 15 (lit< tt) h) ∙ under_ones (digit w i) (digit_lt w i)
        ∙ sym (joined_at i (bit_and w keep) (digit w i) (digit_lt w i) kept)

    before : (k : ℕ) → k < i → bit_and (digit w k) (digit more k)
        ≡ digit (bit_or (bit_and w keep) (digit w i * 16 ^ i)) k
    before k l =
        ap (bit_and (digit w k)) (joined-before i keep 15 (lit< tt) k l) ∙ sym (digit_and w keep k)
        ∙ sym (joined-before i (bit_and w keep) (digit w i) (digit_lt w i) k l)

-- the term at position i adds a digit to what a side makes, and one to its mask and its value
record Added (s t : Side) (i mask value : ℕ) (new : ℕ → ℕ) : Type 0 where
  made_is : (w : ℕ) → made_by t w ≡ bit_or (made_by s w) (new w * 16 ^ i)
  mask_is : t.mask ≡ bit_or s.mask (mask * 16 ^ i)
  value_is : t.value ≡ bit_or s.value (value * 16 ^ i)
  new_lt : (w : ℕ) → new w < 16
  mask_lt : mask < 16
  value_lt : value < 16
  keep_lt : t.keep < 16 ^ (i + 1)
  from_lt : t.from < 16 ^ t.count
  to_lt : t.to < 16 ^ t.count
  count_le : t.count ≤ i + 1

-- all moves of a side agree with a word
abbrev moves : Side → ℕ → Bool
moves s w = all s.count (move_agrees w s.from s.to)

-- one move more, told by a digit more of each word
move_agrees_lem :
    (w from to c f g : ℕ) → from < 16 ^ c → to < 16 ^ c → f < 16 → g < 16
    → all (c + 1) (move_agrees w (bit_or from (f * 16 ^ c)) (bit_or to (g * 16 ^ c)))
    ≡ (all c (move_agrees w from to) && eqb (digit w g) (digit w f))
move_agrees_lem w from to c f g lf lg hf hg =
    let from' = bit_or from (f * 16 ^ c) in
    let to' = bit_or to (g * 16 ^ c) in
    ap (λ (k : ℕ). all k (move_agrees w from' to')) (add-one c)
    ∙ ap₂ ◌&&◌
    (all-ext (move_agrees w from' to') (move_agrees w from to) c (λ k l.
    ap₂ (λ (y z : ℕ). eqb (digit w z) (digit w y)) (joined-before c from f hf k l) (joined-before c to g hg k l)))
    (ap₂ (λ (y z : ℕ). eqb (digit w z) (digit w y)) (joined_at c from f hf lf) (joined_at c to g hg lg))

term-more :
    (n : ℕ) (left side : ℕ → ℕ) (s t : Side) (i mask value : ℕ) (new : ℕ → ℕ)
    → Begun n left side s i → Added s t i mask value new
    → ((w : ℕ) → new w ≡ given n left (unpack n w) i (term_of (side i)))
    → ((y : ℕ) → y < 16 → eqb (bit_and y mask) value ≡ constant_allows (term_of (side i)) y)
    → (left ≡ side → (w : ℕ) → moves t w ≡ (moves s w && variable_agrees n side (unpack n w) i))
    → Begun n left side t (i + 1)
term-more n left side s t i mask value new b a gives allows agrees =
    record {
      makes = λ w k l.
          ap (λ (y : ℕ). digit y k) (a.made_is w)
          ∙ ⊎_elim (λ e. rw e (made_at w)) (λ m. made-before w k m) (last-or-before i k l);
      constants = λ k y l h. ⊎_elim (λ e. rw e (allowed_at y h)) (λ m. allowed-before k y m h) (last-or-before i k l);
      variables = λ e w.
          agrees e w ∙ ap (λ (x : Bool). x && variable_agrees n side (unpack n w) i) (b.variables e w)
          ∙ ap (λ (k : ℕ). all k (variable_agrees n side (unpack n w))) (sym (add-one i));
      small = λ w. rw (a.made_is w) (joined-below i (made_by s w) (new w) (a.new_lt w) (b.small w));
      small_mask = rw a.mask_is (joined-below i s.mask mask a.mask_lt b.small_mask);
      small_value = rw a.value_is (joined-below i s.value value a.value_lt b.small_value);
      small_keep = a.keep_lt;
      small_from = a.from_lt;
      small_to = a.to_lt;
      few = a.count_le;
    }
  where
    made_at : (w : ℕ) → digit (bit_or (made_by s w) (new w * 16 ^ i)) i ≡ given n left (unpack n w) i (term_of (side i))
    made_at w = joined_at i (made_by s w) (new w) (a.new_lt w) (b.small w) ∙ gives w

    made-before :
        (w k : ℕ) → k < i
        → digit (bit_or (made_by s w) (new w * 16 ^ i)) k ≡ given n left (unpack n w) k (term_of (side k))
    made-before w k l = joined-before i (made_by s w) (new w) (a.new_lt w) k l ∙ b.makes w k l

    allowed_at :
        (y : ℕ) → y < 16 → eqb (bit_and y (digit t.mask i)) (digit t.value i) ≡ constant_allows (term_of (side i)) y
    allowed_at y h =
        ap₂ (λ (m v : ℕ). eqb (bit_and y m) v)
        (ap (λ (z : ℕ). digit z i) a.mask_is ∙ joined_at i s.mask mask a.mask_lt b.small_mask)
        (ap (λ (z : ℕ). digit z i) a.value_is ∙ joined_at i s.value value a.value_lt b.small_value)
        ∙ allows y h

    allowed-before :
        (k y : ℕ) → k < i → y < 16
        → eqb (bit_and y (digit t.mask k)) (digit t.value k) ≡ constant_allows (term_of (side k)) y
    allowed-before k y l h =
        ap₂ (λ (m v : ℕ). eqb (bit_and y m) v)
        (ap (λ (z : ℕ). digit z k) a.mask_is ∙ joined-before i s.mask mask a.mask_lt k l)
        (ap (λ (z : ℕ). digit z k) a.value_is ∙ joined-before i s.value value a.value_lt k l)
        ∙ b.constants k y l h

-- the side with one term more: a constant, a position that keeps its label, a move
abbrev with_constant : Side → ℕ → ℕ → Side
with_constant s i byte =
    record {
      mask = bit_or s.mask (15 * 2 ^ (4 * i) % 2 ^ 64);
      value = bit_or s.value (byte * 2 ^ (4 * i) % 2 ^ 64);
      keep = s.keep;
      count = s.count;
      from = s.from;
      to = s.to;
    }

abbrev with_kept : Side → ℕ → Side
with_kept s i =
    record {
      mask = s.mask;
      value = s.value;
      keep = bit_or s.keep (15 * 2 ^ (4 * i) % 2 ^ 64);
      count = s.count;
      from = s.from;
      to = s.to;
    }

abbrev with_move : Side → ℕ → ℕ → Side
with_move s i from =
    record {
      mask = s.mask;
      value = s.value;
      keep = s.keep;
      count = s.count + 1;
      from = bit_or s.from (from * 2 ^ (4 * s.count) % 2 ^ 64);
      to = bit_or s.to (i * 2 ^ (4 * s.count) % 2 ^ 64);
    }

-- nothing added to a word
unchanged : (v i : ℕ) → v ≡ bit_or v (0 * 16 ^ i)
unchanged v i = sym (ap (bit_or v) (zero-mul (16 ^ i)) ∙ or_zero_r v)

one_more : (v i : ℕ) → v < 16 ^ i → v < 16 ^ (i + 1)
one_more v i h = lt_of_lt_of_le h (pow-le-pow_right (zero-lt-suc 15) (omega arith))

module _
    (n : ℕ) (left side : ℕ → ℕ) (s : Side) (i : ℕ) (li : i < n) (ln : n ≤ 16) (b : Begun n left side s i) where
  -- the variables agree as before, where the term at position i is no variable or stands there for the first time
  same-moves :
      (w : ℕ) → variable_agrees n side (unpack n w) i ≡ true
      → moves s w ≡ (moves s w && variable_agrees n side (unpack n w) i)
  same-moves w e = sym (ap (λ (x : Bool). moves s w && x) e ∙ and-right-true (moves s w))

  pub constant-more :
      (c : ConcreteLabel) → term_of (side i) ≡ Label c → Begun n left side (with_constant s i c.0) (i + 1)
  unfolding made_by
  constant-more c h =
      term-more n left side s (with_constant s i c.0) i 15 c.0 (λ w. c.0) b
      (record {
        made_is = made;
        mask_is = ap (bit_or s.mask) (shifted 15 i (lit< tt) (omega arith));
        value_is = value;
        new_lt = λ w. low;
        mask_lt = lit< tt;
        value_lt = low;
        keep_lt = one_more s.keep i b.small_keep;
        from_lt = b.small_from;
        to_lt = b.small_to;
        count_le = omega (arith, b.few);
      })
      (λ w. sym (gives w))
      (λ y l. ap (λ (z : ℕ). eqb z c.0) (under_ones y l) ∙ sym (ap (λ (t : Term). constant_allows t y) h))
      (λ e w.
      same-moves w (ap (λ (t : Term). variable_allows n side (unpack n w) t (get_or (unpack n w) i 0)) h))
    where
      low : c.0 < 16
      low = label-lt (side i) c h

      value : (with_constant s i c.0).value ≡ bit_or s.value (c.0 * 16 ^ i)
      value = ap (bit_or s.value) (shifted c.0 i low (omega arith))

      gives : (w : ℕ) → given n left (unpack n w) i (term_of (side i)) ≡ c.0
      gives w = ap (given n left (unpack n w) i) h

      made : (w : ℕ) → made_by (with_constant s i c.0) w ≡ bit_or (made_by s w) (c.0 * 16 ^ i)
      made w =
          let kept = bit_and w s.keep in
          ap (λ (y : ℕ). join_moves y w s.from s.to s.count)
          (ap (bit_or kept) value ∙ sym (or_assoc kept s.value (c.0 * 16 ^ i)))
          ∙ joined-moves (bit_or kept s.value) (c.0 * 16 ^ i) w s.from s.to s.count

  -- any other term, by where it takes its label from: it adds nothing to the mask and the value
  module _ (from : ℕ) (source : TakenFrom n left side i from) where
    -- the variable, if it is one, agrees where the two labels are the same
    varies :
        left ≡ side → (w : ℕ)
        → variable_agrees n side (unpack n w) i ≡ eqb (get_or (unpack n w) i 0) (get_or (unpack n w) from 0)
    varies e w =
        let u = unpack n w in
        let t = term_of (side i) in
        let y = get_or u i 0 in
        sym (ap (λ (x : Bool). x && variable_allows n side u t y) (source.free y)) ∙ sym (parts_at n side u i t)
        ∙ ap (eqb y) (ap (λ (g : ℕ → ℕ). given n g u i t) (sym e) ∙ source.label u)

    source_more :
        (t : Side) (new : ℕ → ℕ) → ((w : ℕ) → get_or (unpack n w) from 0 ≡ new w) → Added s t i 0 0 new
        → (left ≡ side → (w : ℕ) → moves t w ≡ (moves s w && variable_agrees n side (unpack n w) i))
        → Begun n left side t (i + 1)
    source_more t new gives a =
        term-more n left side s t i 0 0 new b a (λ w. sym (source.label (unpack n w) ∙ gives w))
        (λ y h. eq-eqb (bit_and y 0) 0 (and_zero_r y) ∙ sym (source.free y))

    pub kept_more : from ≡ i → Begun n left side (with_kept s i) (i + 1)
    unfolding made_by
    kept_more e =
        source_more (with_kept s i) (λ w. digit w i) (λ w. ap (λ (k : ℕ). get_or (unpack n w) k 0) e
        ∙ unpack-at n w i li)
        (record {
          made_is = made;
          mask_is = unchanged s.mask i;
          value_is = unchanged s.value i;
          new_lt = λ w. digit_lt w i;
          mask_lt = lit< tt;
          value_lt = lit< tt;
          keep_lt = rw keep (joined-below i s.keep 15 (lit< tt) b.small_keep);
          from_lt = b.small_from;
          to_lt = b.small_to;
          count_le = omega (arith, b.few);
        })
        (λ q w. same-moves w (varies q w ∙ eq-eqb _ _ (ap (λ (k : ℕ). get_or (unpack n w) k 0) (sym e))))
      where
        keep : (with_kept s i).keep ≡ bit_or s.keep (15 * 16 ^ i)
        keep = ap (bit_or s.keep) (shifted 15 i (lit< tt) (omega arith))

        made : (w : ℕ) → made_by (with_kept s i) w ≡ bit_or (made_by s w) (digit w i * 16 ^ i)
        made w =
            let kept = bit_and w s.keep in
            let d = digit w i * 16 ^ i in
            ap (λ (y : ℕ). join_moves y w s.from s.to s.count)
            (ap (λ (y : ℕ). bit_or y s.value) (ap (bit_and w) keep ∙ kept-joined w s.keep i b.small_keep)
            ∙ or_swap kept d s.value)
            ∙ joined-moves (bit_or kept s.value) d w s.from s.to s.count

    pub unbound-more : n ≤ from → Begun n left side s (i + 1)
    unbound-more q =
        source_more s (λ w. 0) (λ w. get_or-eq_default (unpack n w) 0 (omega (arith, unpack-length n w)))
        (record {
          made_is = λ w. unchanged (made_by s w) i;
          mask_is = unchanged s.mask i;
          value_is = unchanged s.value i;
          new_lt = λ w. lit< tt;
          mask_lt = lit< tt;
          value_lt = lit< tt;
          keep_lt = one_more s.keep i b.small_keep;
          from_lt = b.small_from;
          to_lt = b.small_to;
          count_le = omega (arith, b.few);
        })
        (λ e w. absurd (omega (arith, q, source.within e)))

    pub move-more : from < n → Begun n left side (with_move s i from) (i + 1)
    unfolding made_by
    move-more l =
        source_more (with_move s i from) (λ w. digit w from) (λ w. unpack-at n w from l)
        (record {
          made_is = made;
          mask_is = unchanged s.mask i;
          value_is = unchanged s.value i;
          new_lt = λ w. digit_lt w from;
          mask_lt = lit< tt;
          value_lt = lit< tt;
          keep_lt = one_more s.keep i b.small_keep;
          from_lt = rw (at from (omega arith)) (joined-below s.count s.from from (omega arith) b.small_from);
          to_lt = rw (at i (omega arith)) (joined-below s.count s.to i (omega arith) b.small_to);
          count_le = omega (arith, b.few);
        })
        (λ e w.
        agreed w
        ∙ ap (λ (x : Bool). moves s w && x) (sym (varies e w ∙ ap₂ eqb (unpack-at n w i li) (unpack-at n w from l))))
      where
        at : (d : ℕ) → d < 16 → d * 2 ^ (4 * s.count) % 2 ^ 64 ≡ d * 16 ^ s.count
        at d h = shifted d s.count h (omega (arith, b.few))

        made : (w : ℕ) → made_by (with_move s i from) w ≡ bit_or (made_by s w) (digit w from * 16 ^ i)
        made w =
            let v = bit_or (bit_and w s.keep) s.value in
            ap₂ (λ (y z : ℕ). join_moves v w (bit_or s.from y) (bit_or s.to z) (s.count + 1))
            (at from (omega arith)) (at i (omega arith))
            ∙ move-joined v w s.from s.to s.count from i b.small_from b.small_to (omega arith)
            (omega arith)

        agreed : (w : ℕ) → moves (with_move s i from) w ≡ (moves s w && eqb (digit w i) (digit w from))
        agreed w =
            ap₂ (λ (y z : ℕ). all (s.count + 1) (move_agrees w (bit_or s.from y) (bit_or s.to z)))
            (at from (omega arith)) (at i (omega arith))
            ∙ move_agrees_lem w s.from s.to s.count from i b.small_from b.small_to (omega arith)
            (omega arith)
