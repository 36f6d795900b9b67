-- What the parts of compiling sides find and leave: where a term takes its label from (`TakenFrom`), a side begun
-- (`Begun`) and with one term more (`WithConstant`, `WithSource`), a side, both sides of a rule, a rule, all rules,
-- all goals and the counts placed, each with what it keeps of the array. The functions that place sides are stated
-- with these; what they leave of rules and goals is what `Compiled` asks.
use Rattle.std.specs.Prelude.{◌≡◌, true, List, ℕ, ◌+◌, ◌*◌, ◌^◌, ◌≤◌, ◌<◌, eqb, get_or}
use Rattle.std.specs.Int.Bits.{bit_and, bit_or}
use Rattle.basics.specs.Bounded.{all}
use Rattle.basics.specs.Parts.{Outside}
use Rattle.blocks.specs.Terms.{term_of}
use Rattle.blocks.specs.Layout.{positions, rules, goals, goal_of}
use Rattle.blocks.specs.declared.labels.ConcreteLabel.{ConcreteLabel}
use Rattle.blocks.specs.declared.terms.Term.TheVariants.{Label}
use Rattle.psvn.specs.Rules.{given}
use Rattle.psvn.specs.TwoParts.{constant_allows, variable_agrees}
use Rattle.words.specs.Packing.{digit, unpack}
use Rattle.words.specs.Sides.{join_moves, move_agrees, left_place, right_place, goal_place}
use Rattle.words.specs.Code.{code_length, counts_place}
use Rattle.words.specs.Compiled.{Sided, Tested, RuleAt, Counted}
use Rattle.compiling.specs.declared.placing_sides.Side.{Side}

-- the side's term at position i is no constant, and gives the state's label at k, which is there in a left side
pub record TakenFrom (n : ℕ) (left side : ℕ → ℕ) (i k : ℕ) : Type 0 where
  pub label : (s : List ℕ) → given n left s i (term_of (side i)) ≡ get_or s k 0
  pub free : (y : ℕ) → constant_allows (term_of (side i)) y ≡ true
  pub within : left ≡ side → k < n

-- what a side on the way makes of a word
unfoldable pub made_by : Side → ℕ → ℕ
made_by s w = join_moves (bit_or (bit_and w s.keep) s.value) w s.from s.to s.count

-- a side whose first i positions are compiled: what it makes there, what its mask and, in a left side, its moves test
-- there, and nothing from there on; it has at most a move for each, and nothing behind the digits of its moves
pub record Begun (n : ℕ) (left side : ℕ → ℕ) (s : Side) (i : ℕ) : Type 0 where
  pub makes : (w k : ℕ) → k < i → digit (made_by s w) k ≡ given n left (unpack n w) k (term_of (side k))
  pub constants :
      (k y : ℕ) → k < i → y < 16
      → eqb (bit_and y (digit s.mask k)) (digit s.value k) ≡ constant_allows (term_of (side k)) y
  pub variables :
      left ≡ side → (w : ℕ)
      → all s.count (move_agrees w s.from s.to) ≡ all i (variable_agrees n side (unpack n w))
  pub small : (w : ℕ) → made_by s w < 16 ^ i
  pub small_mask : s.mask < 16 ^ i
  pub small_value : s.value < 16 ^ i
  pub small_keep : s.keep < 16 ^ i
  pub small_from : s.from < 16 ^ s.count
  pub small_to : s.to < 16 ^ s.count
  pub few : s.count ≤ i

-- a side with one term more at position i: a constant, or a term that takes its label from the position `from`
pub record WithConstant (i : ℕ) (label : ConcreteLabel) (s t : Side) : Type 0 where
  pub begun :
      (n : ℕ) (left side : ℕ → ℕ) → i < n → n ≤ 16 → term_of (side i) ≡ Label label
      → Begun n left side s i → Begun n left side t (i + 1)

pub record WithSource (i from : ℕ) (s t : Side) : Type 0 where
  pub begun :
      (n : ℕ) (left side : ℕ → ℕ) → i < n → n ≤ 16 → from < n → TakenFrom n left side i from
      → Begun n left side s i → Begun n left side t (i + 1)

-- a side at place x: what it makes, and, where it is a left side, what it tests
pub record SidePlaced (n : ℕ) (left side : ℕ → ℕ) (x : ℕ) (code₀ code₁ : List ℕ) : Type 0 where
  pub sided : Sided n left side code₁ x
  pub tested : left ≡ side → Tested n side code₁ x
  pub code : Outside (6 * x) (6 * x + 6) code₀ code₁

-- both sides of rule r, the left one under itself
pub record SidesPlaced (n : ℕ) (left right : ℕ → ℕ) (r : ℕ) (code₀ code₁ : List ℕ) : Type 0 where
  pub left_tested : Tested n left code₁ (left_place r)
  pub right_sided : Sided n left right code₁ (right_place r)
  pub code : Outside (12 * r) (12 * r + 12) code₀ code₁

-- rule r; the rules before it stay
pub record RulePlaced (b : List ℕ) (r : ℕ) (code₀ code₁ : List ℕ) : Type 0 where
  pub rule : RuleAt b code₁ r
  pub others : (k : ℕ) → k < r → RuleAt b code₀ k → RuleAt b code₁ k

-- all rules
pub record RulesPlaced (b code₀ code₁ : List ℕ) : Type 0 where
  pub rule : (r : ℕ) → r < rules b → RuleAt b code₁ r

-- all goals; what stands at other places stays
pub record GoalsPlaced (b code₀ code₁ : List ℕ) : Type 0 where
  pub goal : (g : ℕ) → g < goals b → Tested (positions b) (goal_of b g) code₁ (goal_place g)
  pub code : Outside (6 * goal_place 0) (6 * goal_place 8) code₀ code₁

-- how many positions, rules and goals there are; what stands before that stays
pub record CountsPlaced (b code₀ code₁ : List ℕ) : Type 0 where
  pub counted : Counted b code₁
  pub code : Outside counts_place code_length code₀ code₁
