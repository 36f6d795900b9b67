-- The ranks of a state under all maps in one number, 16 bits for each (`ranks_of`), by the weights of its labels,
-- which stand at the front of an array; and what each rule adds to them, behind the weights: the ranks after a rule
-- (`next_ranks`), from the ranks and the word before it. `Changed` says that these are the ranks of the states that
-- rules make of states they apply to, whatever the weights are. The search looks at figures by it before it makes a
-- state.
use Rattle.std.specs.Prelude.{◌≡◌, ℕ, zero, suc, ◌+◌, ◌*◌, ◌/◌, ◌%◌, ◌^◌, ◌<◌, ◌≤◌, true, List, slice_index}
use Rattle.basics.specs.Sums.{sum_to}
use Rattle.blocks.specs.Layout.{positions, rules}
use Rattle.blocks.specs.States.{state_ok}
use Rattle.psvn.specs.Rules.{applies, step}
use Rattle.words.specs.Packing.{unpack}

-- sums are those of words of 64 bits: what is taken away needs no sign
abbrev pub word_span : ℕ
word_span = 18446744073709551616

abbrev pub changes_length : ℕ
changes_length = 17729

-- the weights of the labels at position p, sixteen for each position
abbrev pub label_weight : List ℕ → ℕ → ℕ → ℕ
label_weight changes p x = slice_index changes (16 * p + x)

-- how many maps there are, the block's own and the further ones
abbrev pub map_count : List ℕ → ℕ
map_count changes = slice_index changes 256

-- the ranks of a state of n labels, and of the state that a word holds: the weights of its labels together
unfoldable pub ranks_of : List ℕ → ℕ → List ℕ → ℕ
ranks_of changes n s = sum_to (λ p. label_weight changes p (slice_index s p)) n % word_span

abbrev pub ranks_word : List ℕ → ℕ → ℕ → ℕ
ranks_word changes n w = ranks_of changes n (unpack n w)

-- k ranks in one number, each below 16,384, which no table's entries pass
abbrev pub RanksLow : ℕ → ℕ → Type 0
RanksLow x zero = Unit {0}
RanksLow x (suc k) = (x % 65536 < 16384) × RanksLow (x / 65536) k

-- where the change of rule r stands: the number of its parts, and its parts, each a shift to the digit of a position
-- and what each of sixteen labels there adds
abbrev pub change_place : ℕ → ℕ
change_place r = 257 + 273 * r

abbrev pub part_count : List ℕ → ℕ → ℕ
part_count changes r = slice_index changes (change_place r)

abbrev pub part_place : ℕ → ℕ → ℕ
part_place r j = change_place r + 1 + 17 * j

-- what the part at an index adds for a word
unfoldable pub part_adds : List ℕ → ℕ → ℕ → ℕ
part_adds changes k w = slice_index changes (k + 1 + w / 2 ^ (slice_index changes k % 64) % 16)

-- what the first j parts of rule r add for a word
unfoldable pub added_to : List ℕ → ℕ → ℕ → ℕ → ℕ
added_to changes r w zero = 0
added_to changes r w (suc j) = added_to changes r w j + part_adds changes (part_place r j) w

-- the ranks after rule r, where they were k
unfoldable pub next_ranks : List ℕ → ℕ → ℕ → ℕ → ℕ
next_ranks changes r k w = (k + added_to changes r w (part_count changes r)) % word_span

-- the changes are those of the block's rules, where they apply
pub record Changed (b changes : List ℕ) : Type 0 where
  pub some_part : (r : ℕ) → r < rules b → 0 < part_count changes r
  pub few : (r : ℕ) → r < rules b → part_count changes r ≤ 16
  pub next :
      (r w : ℕ) → r < rules b → state_ok b (unpack (positions b) w) ≡ true → applies b r (unpack (positions b) w) ≡ true
      → next_ranks changes r (ranks_word changes (positions b) w) w
      ≡ ranks_of changes (positions b) (step b r (unpack (positions b) w))
