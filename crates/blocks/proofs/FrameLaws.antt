-- Laws of frames: they make up the block behind its head (`frames-all`), and what the head alone settles is the same
-- for a head and for a block that begins with it (`same_length`, `same_head`, `head-alone`). Reading an exercise frame
-- by frame rests on these.
use mathlib.Core.Path.{◌≡◌, ap, ◌∙◌}
use mathlib.Core.List.{List, ◌++◌}
use Prim.Native.Nat.{ℕ, zero, suc, ◌+◌, ◌≤◌, ◌<◌}
use native.Mathlib.Nat.{add-zero, add-suc, suc-mul, zero-mul}
use native.Mathlib.Omega.{arith}
use lib.Dec.{lit<}
use lib.ListN.{length, length-append, get_or-append}
use borrow.Author.Tests.{ne_eqb, le-leb, lt-leb}
use Rattle.blocks.specs.Layout.{positions, rules, goals, head_length, head_byte, abstract_states, rule_width, rule_at}
use Rattle.blocks.specs.Layout.{goal_at, block_length, frame_count, frame_length}
use Rattle.blocks.specs.Validity.{Headed}

module _ (b : List ℕ) where
  -- where frame i begins
  unfoldable pub frame_at : ℕ → ℕ
  frame_at zero = head_length
  frame_at (suc i) = frame_at i + frame_length b i

  -- the length of each frame by its kind
  rule-frame : (r : ℕ) → r < rules b → frame_length b (suc r) ≡ rule_width b
  unfolding frame_length
  rule-frame r l = rw (ne_eqb (suc r) 0 (λ e. omega arith), le-leb (suc r) (rules b) l)

  goal-frame : (i : ℕ) → rules b ≤ i → frame_length b (suc i) ≡ positions b
  unfolding frame_length
  goal-frame i l = rw (ne_eqb (suc i) 0 (λ e. omega arith), lt-leb (suc i) (rules b) (omega arith))

  -- rules begin behind the map, and goals behind the rules
  rule-begins : (r : ℕ) → r ≤ rules b → frame_at (suc r) ≡ rule_at b r
  unfolding frame_at frame_length rule_at
  rule-begins zero l = omega (arith, zero-mul (rule_width b))
  rule-begins (suc r) l =
      omega (arith, rule-begins r (omega arith), rule-frame r l, suc-mul r (rule_width b))

  goal-begins : (g : ℕ) → frame_at (suc (rules b + g)) ≡ goal_at b g
  unfolding frame_at goal_at
  goal-begins zero =
      ap (λ (i : ℕ). frame_at (suc i)) (add-zero (rules b))
      ∙ omega (arith, rule-begins (rules b) (omega arith), zero-mul (positions b))
  goal-begins (suc g) =
      ap (λ (i : ℕ). frame_at (suc i)) (add-suc (rules b) g)
      ∙ omega (arith, goal-begins g, goal-frame (rules b + g) (omega arith), suc-mul g (positions b))

  pub frames-all : frame_at (frame_count b) ≡ block_length b
  unfolding frame_count block_length
  frames-all = ap frame_at (omega arith) ∙ goal-begins (goals b)

  -- frames begin behind one another
  pub frames-rise : (i k : ℕ) → frame_at i ≤ frame_at (i + k)
  unfolding frame_at
  frames-rise i zero = omega (arith, ap frame_at (add-zero i))
  frames-rise i (suc k) = omega (arith, frames-rise i k, ap frame_at (add-suc i k))

-- a head, and a block that begins with it
module _ (head rest : List ℕ) (five : length head ≡ head_length) where
  same_byte : (i : ℕ) → i < head_length → head_byte (head ++ rest) i ≡ head_byte head i
  unfolding head_byte
  same_byte i l = get_or-append head rest 0 i (omega arith)

  pub same_length : block_length (head ++ rest) ≡ block_length head
  unfolding block_length goal_at rule_at rule_width
  same_length =
      rw (same_byte 0 (lit< tt), same_byte 1 (lit< tt), same_byte 3 (lit< tt), same_byte 4 (lit< tt))

  same-states : abstract_states (head ++ rest) ≡ abstract_states head
  unfolding abstract_states
  same-states = rw (same_byte 0 (lit< tt), same_byte 2 (lit< tt))

  pub same_head : Headed head → Headed (head ++ rest)
  same_head h =
      record {
        long = omega (arith, length-append head rest, h.long);
        sizes =
            omega (
              arith,
              same_byte 0 (lit< tt),
              same_byte 1 (lit< tt),
              same_byte 2 (lit< tt),
              same_byte 3 (lit< tt),
              same_byte 4 (lit< tt),
            );
        few = omega (arith, same-states, h.few);
      }

  pub head-alone : Headed (head ++ rest) → Headed head
  head-alone h =
      record {
        long = omega (arith, five);
        sizes =
            omega (
              arith,
              same_byte 0 (lit< tt),
              same_byte 1 (lit< tt),
              same_byte 2 (lit< tt),
              same_byte 3 (lit< tt),
              same_byte 4 (lit< tt),
            );
        few = omega (arith, same-states, h.few);
      }
