-- What stays of a compiled block where parts of it are written anew: a side whose elements stay makes and tests the
-- same (`sided-kept`, `tested-kept`), and so a rule whose sides and cost stay is the same (`rule-kept`). Sides and
-- costs stand in front of the sets of rules, so that code in which only these are written says the same of its block
-- (`compiled-kept`). Compiling side after side, and making the sets, rest on these.
use Rattle.std.proofs.Common.{◌≡◌, ℕ, ◌+◌, ◌*◌, ◌%◌, ◌<◌, ◌≤◌, List, get_or, ap, ◌∙◌, arith}
use Rattle.basics.specs.Parts.{Outside}
use Rattle.words.specs.Packing.{unpack}
use Rattle.words.specs.Code.{sets_place, counts_place}
use Rattle.words.specs.Sides.{left_place, right_place, goal_place, mask_at, value_at, keep_at, count_at, from_at, to_at}
use Rattle.words.specs.Sides.{rewritten_word, mask_allows, variables_word}
use Rattle.words.specs.Compiled.{Sided, Tested, RuleAt, Compiled}

-- the elements from i on up to j are the same
pub record Same (old new : List ℕ) (i j : ℕ) : Type 0 where
  pub element : (k : ℕ) → i ≤ k → k < j → get_or new k 0 ≡ get_or old k 0

-- those of the side at place x
module _ {old new : List ℕ} (x : ℕ) (same : Same old new (6 * x) (6 * x + 6)) where
  mask-kept : mask_at new x ≡ mask_at old x
  mask-kept = same.element (6 * x) (omega arith) (omega arith)

  value-kept : value_at new x ≡ value_at old x
  value-kept = same.element (6 * x + 1) (omega arith) (omega arith)

  keep-kept : keep_at new x ≡ keep_at old x
  keep-kept = same.element (6 * x + 2) (omega arith) (omega arith)

  pub count_kept : count_at new x ≡ count_at old x
  count_kept = same.element (6 * x + 3) (omega arith) (omega arith)

  from-kept : from_at new x ≡ from_at old x
  from-kept = same.element (6 * x + 4) (omega arith) (omega arith)

  to-kept : to_at new x ≡ to_at old x
  to-kept = same.element (6 * x + 5) (omega arith) (omega arith)

  rewritten-kept : (w : ℕ) → rewritten_word new x w ≡ rewritten_word old x w
  unfolding rewritten_word
  rewritten-kept w = rw (keep-kept, value-kept, from-kept, to-kept, count_kept)

  pub allows-kept : (i y : ℕ) → mask_allows new x i y ≡ mask_allows old x i y
  allows-kept i y = rw (mask-kept, value-kept)

  variables-kept : (w : ℕ) → variables_word new x w ≡ variables_word old x w
  unfolding variables_word
  variables-kept w = rw (from-kept, to-kept, count_kept)

  pub sided-kept : {n : ℕ} {left side : ℕ → ℕ} → Sided n left side old x → Sided n left side new x
  sided-kept {n} s =
      record {
        makes = λ w h. ap (unpack n) (rewritten-kept w) ∙ s.makes w h;
        small = λ w h. rw (rewritten-kept w) (s.small w h);
      }

  pub tested-kept : {n : ℕ} {side : ℕ → ℕ} → Tested n side old x → Tested n side new x
  tested-kept t =
      record {
        sided = sided-kept t.sided;
        constants = λ i y l m. allows-kept i y ∙ t.constants i y l m;
        nothing_behind = λ i y l. allows-kept i y ∙ t.nothing_behind i y l;
        variables = λ w. variables-kept w ∙ t.variables w;
      }

-- those of a rule, and its cost
pub rule-kept :
    {b old new : List ℕ} (r : ℕ) → Same old new (12 * r) (12 * r + 12) → get_or new (816 + r) 0 ≡ get_or old (816 + r) 0
    → RuleAt b old r → RuleAt b new r
rule-kept r same same-cost a =
    record {
      left =
          tested-kept (left_place r) (record { element = λ j l m. same.element j (omega arith) (omega arith) })
          a.left;
      right =
          sided-kept (right_place r) (record { element = λ j l m. same.element j (omega arith) (omega arith) })
          a.right;
      cost = ap (λ (c : ℕ). c % 256) same-cost ∙ a.cost;
    }

-- code in which only sets are written anew
module _ {old new : List ℕ} (o : Outside sets_place counts_place old new) where
  pub side_same : (x : ℕ) → x < 136 → Same old new (6 * x) (6 * x + 6)
  side_same x l = record { element = λ j a b. o.before j (omega arith) }

  pub compiled-kept : {b : List ℕ} → Compiled b old → Compiled b new
  compiled-kept c =
      let sizes = c.valid.sized.headed.sizes in
      record {
        valid = c.valid;
        counted =
            record {
              positions_told = o.behind 1137 (omega arith) ∙ c.counted.positions_told;
              rules_told = o.behind 1138 (omega arith) ∙ c.counted.rules_told;
              goals_told = o.behind 1139 (omega arith) ∙ c.counted.goals_told;
            };
        rule = λ r l.
            rule-kept r (record { element = λ j a b. o.before j (omega arith) }) (o.before (816 + r) (omega arith))
            (c.rule r l);
        goal = λ g l. tested-kept (goal_place g) (side_same (goal_place g) (omega arith)) (c.goal g l);
      }
