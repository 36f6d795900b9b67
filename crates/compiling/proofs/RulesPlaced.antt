-- Rules and goals placed one after another: the two sides of a rule (`sides-placed`), a rule with its cost, which keeps
-- the rules before it (`rule-placed`), a goal, which keeps those before it (`goal-kept`), and the whole (`compiled`).
-- The loops over rules and goals, and compiling a block, rest on these; what is said of sides carries over to their
-- other names (`named`).
use mathlib.Core.Path.{◌≡◌, refl, ap, ◌∙◌, subst}
use mathlib.Core.List.{List}
use Prim.Native.Nat.{ℕ, ◌+◌, ◌*◌, ◌%◌, ◌≤◌, ◌<◌}
use native.Mathlib.Nat.{mod-eq_of_lt}
use native.Mathlib.Omega.{arith}
use lib.ListN.{length, get_or, set}
use lib.Seq.{get_or-set_same, get_or-set_other}
use Rattle.basics.proofs.Parts.{outside-then, outside-within}
use Rattle.blocks.specs.Layout.{positions, cost_of, left_of, right_of}
use Rattle.blocks.specs.Validity.{Valid}
use Rattle.words.specs.Sides.{left_place, right_place, goal_place, cost_word}
use Rattle.words.specs.Compiled.{Tested, Compiled}
use Rattle.compiling.specs.PlacingSides.{SidePlaced, SidesPlaced, RulePlaced, RulesPlaced, GoalsPlaced}
use Rattle.compiling.specs.PlacingSides.{CountsPlaced}
use Rattle.words.proofs.KeptCode.{sided-kept, tested-kept, rule-kept}

-- the two sides of a rule placed one after the other
pub sides-placed :
    {n : ℕ} {left right : ℕ → ℕ} {code₀ code₁ code₂ : List ℕ} (r : ℕ)
    → SidePlaced n left left (left_place r) code₀ code₁ → SidePlaced n left right (right_place r) code₁ code₂
    → SidesPlaced n left right r code₀ code₂
sides-placed {n} {left} {right} {code₀} {code₁} {code₂} r p q =
    record {
      left_tested =
          tested-kept (left_place r) (record { element = λ j a c. q.code.before j (omega arith) }) (p.tested refl);
      right_sided = q.sided;
      code =
          outside-then (outside-within (12 * r) (12 * r + 12) (omega arith) (omega arith) p.code)
          (outside-within (12 * r) (12 * r + 12) (omega arith) (omega arith) q.code);
    }

-- what is said of sides, by other names
pub named :
    {n n' : ℕ} {l l' s s' : ℕ → ℕ} (P : ℕ → (ℕ → ℕ) → (ℕ → ℕ) → Type 0) → n ≡ n' → l ≡ l' → s ≡ s'
    → P n l s → P n' l' s'
named {n} {n'} {l} {l'} {s} {s'} P e f g p =
    subst (λ (s : ℕ → ℕ). P n' l' s) g (subst (λ (l : ℕ → ℕ). P n' l s) f (subst (λ (k : ℕ). P k l s) e p))

pub placed-as :
    {n n' x : ℕ} {l l' s s' : ℕ → ℕ} {code code' : List ℕ} → n ≡ n' → l ≡ l' → s ≡ s'
    → SidePlaced n l s x code code' → SidePlaced n' l' s' x code code'
placed-as {x = x} {code = code} {code' = code'} = named (λ n l s. SidePlaced n l s x code code')

pub sides-as :
    {n n' r : ℕ} {l l' s s' : ℕ → ℕ} {code code' : List ℕ} → n ≡ n' → l ≡ l' → s ≡ s'
    → SidesPlaced n l s r code code' → SidesPlaced n' l' s' r code code'
sides-as {r = r} {code = code} {code' = code'} = named (λ n l s. SidesPlaced n l s r code code')

-- both sides placed, and the cost stored
module _
    {code₀ code₁ : List ℕ} (b : List ℕ) (r cost : ℕ) (few : r < 64) (room : 816 + r < length code₀)
    (sides : SidesPlaced (positions b) (left_of b r) (right_of b r) r code₀ code₁)
    (e : cost ≡ cost_of b r) (h : cost ≤ 255) where
  abbrev with_cost : List ℕ
  with_cost = set code₁ (816 + r) cost

  side_same : (j : ℕ) → j < 816 → get_or with_cost j 0 ≡ get_or code₁ j 0
  side_same j l = get_or-set_other code₁ (816 + r) j cost 0 (λ q. omega arith)

  at-cost : cost_word with_cost r ≡ cost_of b r
  at-cost =
      ap (λ (y : ℕ). y % 256) (get_or-set_same code₁ (816 + r) cost 0 (omega (arith, sides.code.len)))
      ∙ mod-eq_of_lt (omega arith) ∙ e

  pub rule-placed : RulePlaced b r code₀ with_cost
  rule-placed =
      record {
        rule = record {
          left =
              tested-kept (left_place r) (record { element = λ j a c. side_same j (omega arith) }) sides.left_tested;
          right =
              sided-kept (right_place r) (record { element = λ j a c. side_same j (omega arith) }) sides.right_sided;
          cost = at-cost;
        };
        others = λ k l s.
            rule-kept k (record { element = λ j a c. side_same j (omega arith) ∙ sides.code.before j (omega arith) })
            (get_or-set_other code₁ (816 + r) (816 + k) cost 0 (λ q. omega arith)
            ∙ sides.code.behind (816 + k) (omega arith))
            s;
      }

-- a goal stays while a later one is placed
pub goal-kept :
    {n : ℕ} {goal l s : ℕ → ℕ} {code code' : List ℕ} (g k : ℕ) → k < g → SidePlaced n l s (goal_place g) code code'
    → Tested n goal code (goal_place k) → Tested n goal code' (goal_place k)
goal-kept g k h p = tested-kept (goal_place k) (record { element = λ j a c. p.code.before j (omega arith) })

pub compiled :
    {b code₀ code₁ code₂ code₃ : List ℕ} → Valid b → RulesPlaced b code₀ code₁
    → GoalsPlaced b code₁ code₂ → CountsPlaced b code₂ code₃ → Compiled b code₃
compiled {b} {code₀} {code₁} {code₂} {code₃} valid rs gs cs =
    record {
      valid = valid;
      counted = cs.counted;
      rule = λ r l.
          let few : r < 64 = omega (arith, valid.sized.headed.sizes.r_high) in
          rule-kept r (record { element = λ j a c. cs.code.before j (omega arith) ∙ gs.code.before j (omega arith) })
          (cs.code.before (816 + r) (omega arith) ∙ gs.code.behind (816 + r) (omega arith)) (rs.rule r l);
      goal = λ g l.
          let few : g < 8 = omega (arith, valid.sized.headed.sizes.g_high) in
          tested-kept (goal_place g) (record { element = λ j a c. cs.code.before j (omega arith) }) (gs.goal g l);
    }
