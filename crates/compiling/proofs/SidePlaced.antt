-- A side whose n positions are compiled, once its six elements are stored, is `Sided`, and a left side `Tested`
-- (`side-placed`). Placing a side rests on this.
use mathlib.Core.Path.{◌≡◌, sym, ap, ◌∙◌, subst}
use mathlib.Core.Bool.{true}
use mathlib.Core.List.{List}
use Prim.Native.Nat.{ℕ, ◌+◌, ◌*◌, ◌≤◌, ◌<◌}
use native.Mathlib.Omega.{arith}
use lib.Bits.{bit_and, and_zero_r, or_zero_r}
use lib.Dec.{eqb, lit<}
use lib.ListN.{length, get_or, set, length-set}
use lib.Seq.{get_or-set_same, get_or-set_other}
use borrow.Author.Tests.{eq-eqb}
use Rattle.basics.specs.Bounded.{all}
use Rattle.basics.specs.Parts.{Outside}
use Rattle.basics.proofs.Parts.{outside-none}
use Rattle.basics.proofs.Lists.{tabulate-ext}
use Rattle.blocks.specs.Terms.{term_of}
use Rattle.psvn.specs.Rules.{given, rewritten}
use Rattle.psvn.specs.TwoParts.{variables_agree}
use Rattle.words.specs.Packing.{digit, unpack}
use Rattle.words.specs.Sides.{mask_at, value_at, keep_at, count_at, from_at, to_at, join_moves, rewritten_word}
use Rattle.words.specs.Sides.{mask_allows, move_agrees}
use Rattle.words.specs.Sides.{variables_word}
use Rattle.words.specs.Compiled.{Sided, Tested}
use Rattle.compiling.specs.PlacingSides.{made_by, Begun, SidePlaced}
use Rattle.compiling.specs.declared.placing_sides.Side.{Side}
use Rattle.words.proofs.WordDigits.{digit-high}

-- nothing compiled yet
pub begun-none :
    (n : ℕ) (left side : ℕ → ℕ) (s : Side)
    → (s.mask ≡ 0) × ((s.value ≡ 0) × ((s.keep ≡ 0) × ((s.count ≡ 0) × ((s.from ≡ 0) × (s.to ≡ 0)))))
    → Begun n left side s 0
unfolding made_by join_moves
begun-none n left side s (mask, (value, (keep, (count, (from, to))))) =
    record {
      makes = λ w k l. absurd (omega arith);
      constants = λ k y l. absurd (omega arith);
      variables = λ e w. ap (λ (c : ℕ). all c (move_agrees w s.from s.to)) count;
      small = λ w. rw (count, keep, value, or_zero_r (bit_and w 0), and_zero_r w) (lit< tt);
      small_mask = rw mask (lit< tt);
      small_value = rw value (lit< tt);
      small_keep = rw keep (lit< tt);
      small_from = rw (from, count) (lit< tt);
      small_to = rw (to, count) (lit< tt);
      few = omega (arith, count);
    }

-- the elements of place x are those of the side s
record Stored (s : Side) (code : List ℕ) (x : ℕ) : Type 0 where
  mask_is : mask_at code x ≡ s.mask
  value_is : value_at code x ≡ s.value
  keep_is : keep_at code x ≡ s.keep
  count_is : count_at code x ≡ s.count
  from_is : from_at code x ≡ s.from
  to_is : to_at code x ≡ s.to

module _
    (n : ℕ) (left side : ℕ → ℕ) (s : Side) (code : List ℕ) (x : ℕ) (ln : n ≤ 16)
    (b : Begun n left side s n) (t : Stored s code x) where
  made : (w : ℕ) → rewritten_word code x w ≡ made_by s w
  unfolding rewritten_word made_by
  made w = rw (t.keep_is, t.value_is, t.from_is, t.to_is, t.count_is)

  makes : (w : ℕ) → unpack n (rewritten_word code x w) ≡ rewritten n left side (unpack n w)
  unfolding unpack rewritten
  makes w =
      tabulate-ext n (digit (rewritten_word code x w)) (λ k. given n left (unpack n w) k (term_of (side k))) (λ k l.
      ap (λ (y : ℕ). digit y k) (made w) ∙ b.makes w k l)

  allows : (i y : ℕ) → mask_allows code x i y ≡ eqb (bit_and y (digit s.mask i)) (digit s.value i)
  allows i y = rw (t.mask_is, t.value_is)

  nothing_behind : (i y : ℕ) → n ≤ i → mask_allows code x i y ≡ true
  nothing_behind i y l =
      allows i y
      ∙ eq-eqb _ _
      (ap (bit_and y) (digit-high n s.mask i b.small_mask l) ∙ and_zero_r y
      ∙ sym (digit-high n s.value i b.small_value l))

  variables : left ≡ side → (w : ℕ) → variables_word code x w ≡ variables_agree n side (unpack n w)
  unfolding variables_word variables_agree
  variables e w = rw (t.count_is, t.from_is, t.to_is) (b.variables e w)

  sided : Sided n left side code x
  sided =
      record {
        makes = λ w l. makes w;
        small = λ w l. rw (made w) (b.small w);
      }

  tested : left ≡ side → Tested n side code x
  tested e =
      record {
        sided = subst (λ (g : ℕ → ℕ). Sided n g side code x) e sided;
        constants = λ i y l h. allows i y ∙ b.constants i y l h;
        nothing_behind = nothing_behind;
        variables = variables e;
      }

-- one element stored, before those behind it are
written :
    {high next : ℕ} {code : List ℕ} (code' : List ℕ) (i v : ℕ) → Outside next high (set code i v) code'
    → i < length code' → i < next → i < high → Outside i high code code' × (get_or code' i 0 ≡ v)
written {high} {next} {code} code' i v o room l h = (
  record {
    len = o.len ∙ length-set code i v;
    before = λ j k. o.before j (omega arith) ∙ get_or-set_other code i j v 0 (λ e. omega arith);
    behind = λ j k. o.behind j k ∙ get_or-set_other code i j v 0 (λ e. omega arith);
  },
  o.before i l ∙ get_or-set_same code i v 0 (omega (arith, o.len, length-set code i v)),
)

-- the six elements of a side stored
module _ (code : List ℕ) (x : ℕ) (s : Side) (room : 6 * x + 6 ≤ length code) where
  abbrev with_side : List ℕ
  with_side =
      set (set (set (set (set (set code (6 * x) s.mask) (6 * x + 1) s.value) (6 * x + 2) s.keep)
      (6 * x + 3) s.count) (6 * x + 4) s.from) (6 * x + 5) s.to

  room-left : 6 * x + 6 ≤ length with_side
  room-left = simp length-set room

  stored : Stored s with_side x × Outside (6 * x) (6 * x + 6) code with_side
  stored =
      let room' = room-left in
      let none = outside-none (6 * x + 6) (6 * x + 6) with_side in
      let to = written with_side (6 * x + 5) s.to none (omega arith) (omega arith) (omega arith) in
      let from = written with_side (6 * x + 4) s.from to.0 (omega arith) (omega arith) (omega arith) in
      let count = written with_side (6 * x + 3) s.count from.0 (omega arith) (omega arith) (omega arith) in
      let keep = written with_side (6 * x + 2) s.keep count.0 (omega arith) (omega arith) (omega arith) in
      let value = written with_side (6 * x + 1) s.value keep.0 (omega arith) (omega arith) (omega arith) in
      let mask = written with_side (6 * x) s.mask value.0 (omega arith) (omega arith) (omega arith) in (
        record {
          mask_is = mask.1;
          value_is = value.1;
          keep_is = keep.1;
          count_is = count.1;
          from_is = from.1;
          to_is = to.1;
        },
        mask.0,
      )

  pub side-placed :
      (n : ℕ) (left side : ℕ → ℕ) → n ≤ 16 → Begun n left side s n → SidePlaced n left side x code with_side
  side-placed n left side ln b =
      record {
        sided = sided n left side s with_side x ln b stored.0;
        tested = tested n left side s with_side x ln b stored.0;
        code = stored.1;
      }
