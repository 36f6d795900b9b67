-- Laws of the layout: each rule, side and goal of a block lies in it, how far the offsets reach, and how long a block
-- (`block-short`) and its relabelled block are. Whoever reads a block goes by these and not by the layout.
use mathlib.Core.Path.{◌≡◌}
use mathlib.Core.List.{List}
use Prim.Native.Nat.{ℕ, ◌+◌, ◌*◌, ◌≤◌, ◌<◌}
use native.Mathlib.Nat.{mul-le-mul, mul-le-mul_right, suc-mul}
use native.Mathlib.Omega.{arith}
use lib.ListN.{length}
use Rattle.basics.proofs.Lists.{length-tabulate}
use Rattle.blocks.specs.Layout.{positions, labels, abstracts, rules, goals, head_length, rule_width, rule_at, left_at}
use Rattle.blocks.specs.Layout.{right_at, goal_at, block_length, relabel_head, relabelled_length}
use Rattle.blocks.specs.Validity.{Headed, Sized}

module _ (b : List ℕ) where
  -- each offset by the one before it
  pub left_is : (r : ℕ) → left_at b r ≡ rule_at b r + 1
  unfolding left_at
  left_is r = omega arith

  pub right_is : (r : ℕ) → right_at b r ≡ left_at b r + positions b
  unfolding right_at
  right_is r = omega arith

  pub end_is : block_length b ≡ goal_at b (goals b)
  unfolding block_length
  end_is = omega arith

  width_is : rule_width b ≡ 1 + 2 * positions b
  unfolding rule_width
  width_is = omega arith

  -- what lies before the rules' end, and before the goals' end
  rule-before : (r : ℕ) → r < rules b → rule_at b r + rule_width b ≤ goal_at b 0
  unfolding rule_at goal_at
  rule-before r l = omega (arith, suc-mul r (rule_width b), mul-le-mul_right (rule_width b) l)

  goal-before : (g : ℕ) → g < goals b → goal_at b g + positions b ≤ block_length b
  unfolding goal_at block_length
  goal-before g l = omega (arith, suc-mul g (positions b), mul-le-mul_right (positions b) l)

  goals-before : goal_at b 0 ≤ block_length b
  unfolding goal_at block_length
  goals-before = omega arith

  map-before : head_length + labels b ≤ goal_at b 0
  unfolding rule_at goal_at
  map-before = omega arith

  pub map-fits : labels b ≤ block_length b
  map-fits = omega (arith, map-before, goals-before)

  pub relabel-head-length : length (relabel_head b) ≡ head_length + abstracts b
  unfolding relabel_head
  relabel-head-length = omega (arith, length-tabulate (abstracts b) (λ x. x))

  -- the relabelled block has K map bytes for L
  pub relabelled-length-is : relabelled_length b + labels b ≡ block_length b + abstracts b
  unfolding relabelled_length block_length goal_at rule_at
  relabelled-length-is = omega arith

  -- how far the offsets reach
  module _ (h : Headed b) where
    pub rules-reach : (r : ℕ) → r ≤ rules b → r * rule_width b ≤ 2112
    rules-reach r l =
        let few : r ≤ 64 = omega arith in
        let narrow : rule_width b ≤ 33 = omega (arith, width_is) in
        mul-le-mul few narrow

    pub goals-reach : (g : ℕ) → g ≤ goals b → g * positions b ≤ 128
    goals-reach g l =
        let few : g ≤ 8 = omega arith in
        let narrow : positions b ≤ 16 = omega arith in
        mul-le-mul few narrow

    -- the longest block has 2,261 bytes
    pub block-short : block_length b ≤ 2261
    unfolding block_length goal_at rule_at
    block-short =
        omega (arith, rules-reach (rules b) (omega arith), goals-reach (goals b) (omega arith), h.sizes.l_high)

  -- what an accepted length gives
  module _ (h : Sized b) where
    pub map-inside : (x : ℕ) → x < labels b → head_length + x < length b
    map-inside x l = omega (arith, map-before, goals-before)

    pub cost-inside : (r : ℕ) → r < rules b → rule_at b r < length b
    cost-inside r l = omega (arith, rule-before r l, goals-before, width_is)

    pub left-inside : (r : ℕ) → r < rules b → left_at b r + positions b ≤ length b
    left-inside r l = omega (arith, rule-before r l, goals-before, width_is, left_is r)

    pub right-inside : (r : ℕ) → r < rules b → right_at b r + positions b ≤ length b
    right-inside r l = omega (arith, rule-before r l, goals-before, width_is, left_is r, right_is r)

    pub goal-inside : (g : ℕ) → g < goals b → goal_at b g + positions b ≤ length b
    goal-inside g l = omega (arith, goal-before g l)
