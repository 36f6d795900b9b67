-- What turns a block back, 3 to 7 in this order, each over the whole block before the next: `block_conditions`, in the
-- parts `shape_conditions` and `content_conditions`.
-- `Headed`, `Sized` and `Valid` say what holds once the first, the first two and all conditions are met; inner
-- functions ask for them.
use Rattle.std.specs.Prelude.{◌≡◌, ℕ, ◌≤◌, Bool, true, ◌&&◌, List, [], ◌∷◌, ◌++◌, leb, ltb, eqb, length}
use Rattle.basics.specs.Bounded.{all, some}
use Rattle.refusals.specs.Answers.{Condition, ◌unless◌}
use Rattle.blocks.specs.Terms.{term_of, term_ok}
use Rattle.blocks.specs.Layout.{positions, labels, abstracts, rules, goals, label_count, abstract_states}
use Rattle.blocks.specs.Layout.{head_length, map_byte, block_length, left_of, right_of, goal_of}
use Rattle.blocks.specs.declared.terms.Term.{Term}
use Rattle.blocks.specs.declared.terms.Term.TheVariants.{Label, Variable, Dash, Refused}

-- x lies from low to high
abbrev pub within : ℕ → ℕ → ℕ → Bool
within low x high = leb low x && leb x high

-- the head's numbers in their limits, the number of abstract states aside
unfoldable pub sizes_ok : List ℕ → Bool
sizes_ok b =
    within 1 (positions b) 16
    && (within 1 (labels b) 16
    && (within 1 (abstracts b) (labels b)
    && (leb (rules b) 64
    && within 1 (goals b) 8)))

-- 3: five bytes or more, and the head in its limits
unfoldable pub head_ok : List ℕ → Bool
head_ok b = leb head_length (length b) && (sizes_ok b && leb (abstract_states b) 16384)

-- 4: the length is as the head demands
unfoldable pub length_ok : List ℕ → Bool
length_ok b = eqb (length b) (block_length b)

-- 5: each map byte is below K
unfoldable pub map_ok : List ℕ → Bool
map_ok b = all (labels b) (λ x. ltb (map_byte b x) (abstracts b))

-- 6: the rules' and the goals' bytes are terms, their constants below the label count
unfoldable pub side_ok : List ℕ → (ℕ → ℕ) → Bool
side_ok b side = all (positions b) (λ i. term_ok (label_count b i) (term_of (side i)))

unfoldable pub rule_terms_ok : List ℕ → Bool
rule_terms_ok b = all (rules b) (λ r. side_ok b (left_of b r) && side_ok b (right_of b r))

unfoldable pub goal_terms_ok : List ℕ → Bool
goal_terms_ok b = all (goals b) (λ g. side_ok b (goal_of b g))

unfoldable pub terms_ok : List ℕ → Bool
terms_ok b = rule_terms_ok b && goal_terms_ok b

-- 7: every right variable also stands on the left of its rule
abbrev pub bound_in : ℕ → (ℕ → ℕ) → Term → Bool
bound_in n left (Label label) = true
bound_in n left (Variable v) = some n (λ j. eqb (left j) v)
bound_in n left Dash = true
bound_in n left Refused = true

unfoldable pub rule_bound : List ℕ → ℕ → Bool
rule_bound b r = all (positions b) (λ i. bound_in (positions b) (left_of b r) (term_of (right_of b r i)))

unfoldable pub bound_ok : List ℕ → Bool
bound_ok b = all (rules b) (rule_bound b)

-- the conditions in two parts, by the shape of the block and by what stands in it; what a call is lent beside the
-- block, and what it asks of its other arguments, comes behind them
unfoldable pub shape_conditions : List ℕ → List Condition
shape_conditions b = 3 unless head_ok b ∷ 4 unless length_ok b ∷ []

unfoldable pub content_conditions : List ℕ → List Condition
content_conditions b = 5 unless map_ok b ∷ 6 unless terms_ok b ∷ 7 unless bound_ok b ∷ []

unfoldable pub block_conditions : List ℕ → List Condition
block_conditions b = shape_conditions b ++ content_conditions b

-- the head's numbers are in their limits
pub record Sizes (b : List ℕ) : Type 0 where
  pub n_low : 1 ≤ positions b
  pub n_high : positions b ≤ 16
  pub l_low : 1 ≤ labels b
  pub l_high : labels b ≤ 16
  pub k_low : 1 ≤ abstracts b
  pub k_high : abstracts b ≤ labels b
  pub r_high : rules b ≤ 64
  pub g_low : 1 ≤ goals b
  pub g_high : goals b ≤ 8

-- the head is there and in its limits
pub record Headed (b : List ℕ) : Type 0 where
  pub long : head_length ≤ length b
  pub sizes : Sizes b
  pub few : abstract_states b ≤ 16384

-- and the length is as it demands
pub record Sized (b : List ℕ) : Type 0 where
  pub headed : Headed b
  pub len : length b ≡ block_length b

-- and the map, the terms and the variables are right: an accepted block
pub record Valid (b : List ℕ) : Type 0 where
  pub sized : Sized b
  pub mapped : map_ok b ≡ true
  pub terms : terms_ok b ≡ true
  pub bound : bound_ok b ≡ true
