-- The exercise block as a list of bytes: its head, its map, its rules and its goals, each behind a name.
-- Only these definitions know the layout, save that a relabelled block is written in the same order; all others go by
-- the names and their laws.
use Rattle.std.specs.Prelude.{ℕ, ◌+◌, ◌*◌, ◌^◌, cond, List, ◌∷◌, leb, eqb, get_or}
use Rattle.basics.specs.Lists.{tabulate}

-- the head's five bytes: n, L, K, R, G
abbrev pub head_length : ℕ
head_length = 5

unfoldable pub head_byte : List ℕ → ℕ → ℕ
head_byte b i = get_or b i 0

abbrev pub positions : List ℕ → ℕ
positions b = head_byte b 0

abbrev pub labels : List ℕ → ℕ
labels b = head_byte b 1

abbrev pub abstracts : List ℕ → ℕ
abstracts b = head_byte b 2

abbrev pub rules : List ℕ → ℕ
rules b = head_byte b 3

abbrev pub goals : List ℕ → ℕ
goals b = head_byte b 4

-- how many labels, and how many abstract labels, there are at position i
unfoldable pub label_count : List ℕ → ℕ → ℕ
label_count b i = labels b

unfoldable pub abstract_count : List ℕ → ℕ → ℕ
abstract_count b i = abstracts b

-- how many abstract states there are: K to the power n
unfoldable pub abstract_states : List ℕ → ℕ
abstract_states b = abstracts b ^ positions b

-- byte x of the map, which stands behind the head
unfoldable pub map_byte : List ℕ → ℕ → ℕ
map_byte b x = get_or b (head_length + x) 0

-- the abstract label of the label x at position i
unfoldable pub map_at : List ℕ → ℕ → ℕ → ℕ
map_at b i x = map_byte b x

-- a rule's bytes, cost, left terms and right terms; where rule r and its sides begin
unfoldable pub rule_width : List ℕ → ℕ
rule_width b = 1 + 2 * positions b

unfoldable pub rule_at : List ℕ → ℕ → ℕ
rule_at b r = head_length + labels b + r * rule_width b

unfoldable pub left_at : List ℕ → ℕ → ℕ
left_at b r = rule_at b r + 1

unfoldable pub right_at : List ℕ → ℕ → ℕ
right_at b r = left_at b r + positions b

-- where goal g begins, and where the block ends
unfoldable pub goal_at : List ℕ → ℕ → ℕ
goal_at b g = rule_at b (rules b) + g * positions b

unfoldable pub block_length : List ℕ → ℕ
block_length b = goal_at b (goals b)

-- the frames behind the head, the map, each rule and each goal: how many there are, and how many bytes frame i has
unfoldable pub frame_count : List ℕ → ℕ
frame_count b = 1 + rules b + goals b

unfoldable pub frame_length : List ℕ → ℕ → ℕ
frame_length b i = cond (eqb i 0) (labels b) (cond (leb i (rules b)) (rule_width b) (positions b))

-- a side: the terms' bytes from a place on, by position
abbrev pub side_at : List ℕ → ℕ → ℕ → ℕ
side_at b at i = get_or b (at + i) 0

-- rule r: its cost, its left and its right side; goal g
unfoldable pub cost_of : List ℕ → ℕ → ℕ
cost_of b r = get_or b (rule_at b r) 0

abbrev pub left_of : List ℕ → ℕ → ℕ → ℕ
left_of b r = side_at b (left_at b r)

abbrev pub right_of : List ℕ → ℕ → ℕ → ℕ
right_of b r = side_at b (right_at b r)

abbrev pub goal_of : List ℕ → ℕ → ℕ → ℕ
goal_of b g = side_at b (goal_at b g)

-- the head and the map of the relabelled block: L and K both the old K, the identity map; and that block's length
unfoldable pub relabel_head : List ℕ → List ℕ
relabel_head b =
    positions b ∷ abstracts b ∷ abstracts b ∷ rules b ∷ goals b ∷ tabulate (abstracts b) (λ x. x)

unfoldable pub relabelled_length : List ℕ → ℕ
relabelled_length b = head_length + abstracts b + (rules b * rule_width b + goals b * positions b)
