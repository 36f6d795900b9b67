-- The relabelled block, part by part: the lengths of what relabelling writes, the head and the map, and the cost and
-- the terms of each rule and goal (`cost-relabelled`, `left-relabelled`, `right-relabelled`, `goal-relabelled`); and
-- the relabelled state, its length and label by label (`relabelled-labels`, `relabelled-label`). The theorems on
-- relabelling rest on these.
use mathlib.Core.Path.{◌≡◌, refl, sym, ap, ap₂, ◌∙◌}
use mathlib.Core.List.{List, [], ◌∷◌, ◌++◌}
use Prim.Native.Nat.{ℕ, suc, ◌+◌, ◌*◌, ◌≤◌, ◌<◌}
use native.Mathlib.Nat.{add-zero, suc-mul, mul-le-mul_right}
use native.Mathlib.Omega.{arith}
use lib.ListN.{length, get_or, length-append, get_or-append}
use lib.Seq.{get_or-append-add}
use Rattle.basics.specs.Lists.{tabulate}
use Rattle.basics.proofs.Lists.{length-tabulate, get_or-tabulate, length-joined, get_or-joined}
use Rattle.blocks.specs.Layout.{head_byte, positions, labels, abstracts, rules, goals, label_count, abstract_count}
use Rattle.blocks.specs.Layout.{abstract_states, head_length, map_byte, map_at, rule_width, rule_at, left_at, right_at}
use Rattle.blocks.specs.Layout.{goal_at}
use Rattle.blocks.specs.Layout.{block_length, cost_of, left_of, right_of, goal_of, relabel_head, relabelled_length}
use Rattle.psvn.specs.Relabelling.{relabel_term, relabel_side, relabel_rule, relabel_goal, relabel_rules, relabel_goals}
use Rattle.psvn.specs.Relabelling.{relabel_block, relabel_state}
use Rattle.blocks.proofs.Offsets.{relabel-head-length}

module _ (b : List ℕ) where
  -- lengths
  pub side-length : (side : ℕ → ℕ) → length (relabel_side b side) ≡ positions b
  unfolding relabel_side
  side-length side = length-tabulate (positions b) (λ i. relabel_term (map_at b i) (side i))

  pub rule-length : (r : ℕ) → length (relabel_rule b r) ≡ suc (positions b + positions b)
  unfolding relabel_rule
  rule-length r =
      ap suc
      (length-append (relabel_side b (left_of b r)) (relabel_side b (right_of b r))
      ∙ ap₂ ◌+◌ (side-length (left_of b r)) (side-length (right_of b r)))

  pub goal-length : (g : ℕ) → length (relabel_goal b g) ≡ positions b
  unfolding relabel_goal
  goal-length g = side-length (goal_of b g)

  rule-width : (r : ℕ) → length (relabel_rule b r) ≡ rule_width b
  unfolding rule_width
  rule-width r = rule-length r ∙ omega arith

  rules-length : length (relabel_rules b) ≡ rules b * rule_width b
  rules-length = length-joined (relabel_rule b) (rule_width b) (rules b) (λ r l. rule-width r)

  goals-length : length (relabel_goals b) ≡ goals b * positions b
  goals-length = length-joined (relabel_goal b) (positions b) (goals b) (λ g l. goal-length g)

  pub relabelled-length : length (relabel_block b) ≡ relabelled_length b
  unfolding relabel_block relabelled_length
  relabelled-length =
      let rs = relabel_rules b in
      let gs = relabel_goals b in
      omega (
        arith,
        length-append (relabel_head b) (rs ++ gs),
        length-append rs gs,
        relabel-head-length b,
        rules-length,
        goals-length,
      )

  pub relabelled-long : head_length ≤ length (relabel_block b)
  unfolding relabelled_length
  relabelled-long = omega (arith, relabelled-length)

  -- the head
  pub positions-relabelled : positions (relabel_block b) ≡ positions b
  unfolding head_byte relabel_block relabel_head
  positions-relabelled = refl

  pub labels-relabelled : labels (relabel_block b) ≡ abstracts b
  unfolding head_byte relabel_block relabel_head
  labels-relabelled = refl

  pub abstracts-relabelled : abstracts (relabel_block b) ≡ abstracts b
  unfolding head_byte relabel_block relabel_head
  abstracts-relabelled = refl

  pub rules-relabelled : rules (relabel_block b) ≡ rules b
  unfolding head_byte relabel_block relabel_head
  rules-relabelled = refl

  pub goals-relabelled : goals (relabel_block b) ≡ goals b
  unfolding head_byte relabel_block relabel_head
  goals-relabelled = refl

  pub label-count-relabelled : (i : ℕ) → label_count (relabel_block b) i ≡ abstract_count b i
  unfolding label_count abstract_count
  label-count-relabelled i = labels-relabelled

  pub abstract-states-relabelled : abstract_states (relabel_block b) ≡ abstract_states b
  unfolding abstract_states
  abstract-states-relabelled = rw (abstracts-relabelled, positions-relabelled)

  width-relabelled : rule_width (relabel_block b) ≡ rule_width b
  unfolding rule_width
  width-relabelled = rw positions-relabelled

  -- the offsets
  rule-at : (r : ℕ) → rule_at (relabel_block b) r ≡ length (relabel_head b) + r * rule_width b
  unfolding rule_at
  rule-at r = rw (labels-relabelled, width-relabelled) (omega (arith, relabel-head-length b))

  goal-at : (g : ℕ) → goal_at (relabel_block b) g ≡ length (relabel_head b) + (rules b * rule_width b + g * positions b)
  unfolding goal_at
  goal-at g = rw (rules-relabelled, positions-relabelled) (omega (arith, rule-at (rules b)))

  pub block-length-relabelled : length (relabel_block b) ≡ block_length (relabel_block b)
  unfolding block_length relabelled_length
  block-length-relabelled =
      relabelled-length ∙ sym (rw goals-relabelled (omega (arith, goal-at (goals b), relabel-head-length b)))

  -- the map is the identity
  pub map-byte-relabelled : (x : ℕ) → x < abstracts b → map_byte (relabel_block b) x ≡ x
  unfolding map_byte relabel_block relabel_head
  map-byte-relabelled x l =
      let id = tabulate (abstracts b) (λ x. x) in
      let rest = relabel_rules b ++ relabel_goals b in
      get_or-append-add (positions b ∷ abstracts b ∷ abstracts b ∷ rules b ∷ goals b ∷ []) (id ++ rest) x 0
      ∙ get_or-append id rest 0 x (omega (arith, length-tabulate (abstracts b) (λ x. x)))
      ∙ get_or-tabulate (abstracts b) (λ x. x) x l

  pub map-relabelled : (i x : ℕ) → x < abstract_count b i → map_at (relabel_block b) i x ≡ x
  unfolding map_at abstract_count
  map-relabelled i x l = map-byte-relabelled x l

  -- byte j behind the map
  body-byte :
      (j : ℕ)
      → get_or (relabel_block b) (length (relabel_head b) + j) 0
      ≡ get_or (relabel_rules b ++ relabel_goals b) j 0
  unfolding relabel_block
  body-byte j = get_or-append-add (relabel_head b) (relabel_rules b ++ relabel_goals b) j 0

  -- byte k of rule r, and of goal g
  rule-byte :
      (r k : ℕ) → r < rules b → k < rule_width b
      → get_or (relabel_block b) (rule_at (relabel_block b) r + k) 0 ≡ get_or (relabel_rule b r) k 0
  rule-byte r k lr lk =
      let rs = relabel_rules b in
      let j = r * rule_width b + k in
      let e : rule_at (relabel_block b) r + k ≡ length (relabel_head b) + j = omega (arith, rule-at r) in
      ap (λ (i : ℕ). get_or (relabel_block b) i 0) e ∙ body-byte j
      ∙ get_or-append rs (relabel_goals b) 0 j
      (omega (arith, rules-length, suc-mul r (rule_width b), mul-le-mul_right (rule_width b) lr))
      ∙ get_or-joined (relabel_rule b) (rule_width b) (rules b) (λ r l. rule-width r) r k lr lk

  goal-byte :
      (g i : ℕ) → g < goals b → i < positions b
      → get_or (relabel_block b) (goal_at (relabel_block b) g + i) 0 ≡ get_or (relabel_goal b g) i 0
  goal-byte g i lg li =
      let rs = relabel_rules b in
      let gs = relabel_goals b in
      let j = length rs + (g * positions b + i) in
      let e : goal_at (relabel_block b) g + i ≡ length (relabel_head b) + j = omega (arith, goal-at g, rules-length) in
      ap (λ (k : ℕ). get_or (relabel_block b) k 0) e ∙ body-byte j ∙ get_or-append-add rs gs (g * positions b + i) 0
      ∙ get_or-joined (relabel_goal b) (positions b) (goals b) (λ g l. goal-length g) g i lg li

  side-byte :
      (side : ℕ → ℕ) (i : ℕ) → i < positions b → get_or (relabel_side b side) i 0 ≡ relabel_term (map_at b i) (side i)
  unfolding relabel_side
  side-byte side i l = get_or-tabulate (positions b) (λ i. relabel_term (map_at b i) (side i)) i l

  wide_enough : (k : ℕ) → k < positions b + positions b → suc k < rule_width b
  unfolding rule_width
  wide_enough k l = omega arith

  -- the rules and the goals
  pub cost-relabelled : (r : ℕ) → r < rules b → cost_of (relabel_block b) r ≡ cost_of b r
  unfolding cost_of relabel_rule rule_width
  cost-relabelled r lr =
      ap (λ (k : ℕ). get_or (relabel_block b) k 0) (sym (add-zero (rule_at (relabel_block b) r)))
      ∙ rule-byte r 0 lr (omega arith)

  pub left-relabelled :
      (r : ℕ) → r < rules b → (i : ℕ) → i < positions b
      → left_of (relabel_block b) r i ≡ relabel_term (map_at b i) (left_of b r i)
  unfolding left_at relabel_rule
  left-relabelled r lr i li =
      let left = relabel_side b (left_of b r) in
      let e : rule_at (relabel_block b) r + 1 + i ≡ rule_at (relabel_block b) r + suc i = omega arith in
      ap (λ (k : ℕ). get_or (relabel_block b) k 0) e ∙ rule-byte r (suc i) lr (wide_enough i (omega arith))
      ∙ get_or-append left (relabel_side b (right_of b r)) 0 i (omega (arith, side-length (left_of b r)))
      ∙ side-byte (left_of b r) i li

  pub right-relabelled :
      (r : ℕ) → r < rules b → (i : ℕ) → i < positions b
      → right_of (relabel_block b) r i ≡ relabel_term (map_at b i) (right_of b r i)
  unfolding left_at right_at relabel_rule
  right-relabelled r lr i li =
      let left = relabel_side b (left_of b r) in
      let k = length left + i in
      let n = side-length (left_of b r) in
      let e : rule_at (relabel_block b) r + 1 + positions (relabel_block b) + i ≡ rule_at (relabel_block b) r + suc k =
      omega (arith, n, positions-relabelled) in
      ap (λ (k : ℕ). get_or (relabel_block b) k 0) e ∙ rule-byte r (suc k) lr (wide_enough k (omega arith))
      ∙ get_or-append-add left (relabel_side b (right_of b r)) i 0
      ∙ side-byte (right_of b r) i li

  pub goal-relabelled :
      (g : ℕ) → g < goals b → (i : ℕ) → i < positions b
      → goal_of (relabel_block b) g i ≡ relabel_term (map_at b i) (goal_of b g i)
  unfolding relabel_goal
  goal-relabelled g lg i li = goal-byte g i lg li ∙ side-byte (goal_of b g) i li

  -- the relabelled state
  pub relabelled-labels : (s : List ℕ) → length (relabel_state b s) ≡ positions b
  unfolding relabel_state
  relabelled-labels s = length-tabulate (positions b) (λ i. map_at b i (get_or s i 0))

  pub relabelled-label : (s : List ℕ) (k : ℕ) → k < positions b → get_or (relabel_state b s) k 0
      ≡ map_at b k (get_or s k 0)
  unfolding relabel_state
  relabelled-label s k l = get_or-tabulate (positions b) (λ i. map_at b i (get_or s i 0)) k l
