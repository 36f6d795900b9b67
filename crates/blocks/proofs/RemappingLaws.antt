-- The exercise under a further map is like the exercise (`remapped-alike`), with that K and map (`remapped-abstracts`,
-- `remapped-map`). An exercise that is like an accepted one is accepted where its own K and map are right
-- (`alike-valid`). The tables of further maps rest on these.
use mathlib.Core.Path.{◌≡◌, refl, sym, ap, ap₂, ◌∙◌, fun_ext}
use mathlib.Core.Logic.{◌⊎◌, inl, inr, ⊎_elim}
use mathlib.Core.Bool.{true, ◌&&◌}
use mathlib.Core.List.{List}
use Prim.Native.Nat.{ℕ, suc, ◌+◌, ◌*◌, ◌≤◌, ◌<◌}
use native.Mathlib.Omega.{arith}
use lib.Dec.{eqb}
use lib.ListN.{length, get_or, set, length-set}
use lib.Seq.{get_or-set_same, get_or-set_other}
use Rattle.basics.specs.Bounded.{all}
use Rattle.basics.proofs.Bounded.{all-ext, some-ext}
use Rattle.basics.proofs.Placing.{length-placed, placed-other, placed_at}
use Rattle.blocks.specs.Terms.{term_of, term_ok}
use Rattle.blocks.specs.Layout.{positions, labels, abstracts, rules, goals, head_length, head_byte, label_count}
use Rattle.blocks.specs.Layout.{abstract_states, map_byte, rule_width, rule_at, left_at, right_at, goal_at}
use Rattle.blocks.specs.Layout.{block_length}
use Rattle.blocks.specs.Layout.{cost_of, left_of, right_of, goal_of}
use Rattle.blocks.specs.Validity.{map_ok, side_ok, rule_terms_ok, goal_terms_ok, terms_ok, bound_in, rule_bound}
use Rattle.blocks.specs.Validity.{bound_ok}
use Rattle.blocks.specs.Validity.{Sized, Valid}
use Rattle.blocks.specs.Remapping.{remapped, Alike}
use Rattle.blocks.specs.declared.terms.Term.{Term}
use Rattle.blocks.specs.declared.terms.Term.TheVariants.{Label, Variable, Dash, Refused}
use Rattle.blocks.proofs.Offsets.{left_is, right_is, map-inside}

-- a list whose head but K, and whose bytes behind the map, are those of b
module _
    (b c : List ℕ) (same-long : length c ≡ length b)
    (head : (j : ℕ) → j < head_length → (j ≡ 2 → ⊥) → get_or c j 0 ≡ get_or b j 0)
    (behind : (j : ℕ) → head_length + labels b ≤ j → get_or c j 0 ≡ get_or b j 0) where
  n-same : positions c ≡ positions b
  unfolding head_byte
  n-same = head 0 (omega arith) (λ e. omega arith)

  l-same : labels c ≡ labels b
  unfolding head_byte
  l-same = head 1 (omega arith) (λ e. omega arith)

  r-same : rules c ≡ rules b
  unfolding head_byte
  r-same = head 3 (omega arith) (λ e. omega arith)

  g-same : goals c ≡ goals b
  unfolding head_byte
  g-same = head 4 (omega arith) (λ e. omega arith)

  rule-at-same : (r : ℕ) → rule_at c r ≡ rule_at b r
  unfolding rule_at rule_width
  rule-at-same r = ap₂ (λ (l n : ℕ). head_length + l + r * (1 + 2 * n)) l-same n-same

  left-at-same : (r : ℕ) → left_at c r ≡ left_at b r
  left-at-same r = omega (arith, left_is c r, left_is b r, rule-at-same r)

  right-at-same : (r : ℕ) → right_at c r ≡ right_at b r
  right-at-same r = omega (arith, right_is c r, right_is b r, left-at-same r, n-same)

  goal-at-same : (g : ℕ) → goal_at c g ≡ goal_at b g
  unfolding goal_at
  goal-at-same g = ap₂ (λ (x n : ℕ). x + g * n) (rule-at-same (rules c) ∙ ap (rule_at b) r-same) n-same

  -- rules and goals stand behind the map
  rule-behind : (r : ℕ) → head_length + labels b ≤ rule_at b r
  unfolding rule_at
  rule-behind r = omega arith

  goal-behind : (g : ℕ) → rule_at b (rules b) ≤ goal_at b g
  unfolding goal_at
  goal-behind g = omega arith

  -- a byte that stands at the same place
  at_same : (k k' i : ℕ) → k' ≡ k → head_length + labels b ≤ k → get_or c (k' + i) 0 ≡ get_or b (k + i) 0
  at_same k k' i e l = ap (λ (x : ℕ). get_or c (x + i) 0) e ∙ behind (k + i) (omega arith)

  cost-is-same : (r : ℕ) → cost_of c r ≡ cost_of b r
  unfolding cost_of
  cost-is-same r = ap (λ (x : ℕ). get_or c x 0) (rule-at-same r) ∙ behind (rule_at b r) (rule-behind r)

  size-is-same : block_length c ≡ block_length b
  unfolding block_length
  size-is-same = goal-at-same (goals c) ∙ ap (goal_at b) g-same

  all_alike : Alike b c
  unfolding label_count
  all_alike =
      record {
        positions_same = n-same;
        labels_same = fun_ext (λ i. l-same);
        rules_same = r-same;
        goals_same = g-same;
        cost_same = cost-is-same;
        left_same =
            λ r i. at_same (left_at b r) (left_at c r) i (left-at-same r) (omega (arith, left_is b r, rule-behind r));
        right_same =
            λ r i.
            at_same (right_at b r) (right_at c r) i (right-at-same r)
            (omega (arith, left_is b r, right_is b r, rule-behind r));
        goal_same =
            λ g i.
            at_same (goal_at b g) (goal_at c g) i (goal-at-same g)
            (omega (arith, goal-behind g, rule-behind (rules b)));
        length_same = same-long;
        size_same = size-is-same;
      }

-- under a further map
module _ (b m : List ℕ) where
  abbrev renewed : List ℕ
  renewed = set b 2 (get_or m 0 0)

  remapped-other :
      (j : ℕ) → (j ≡ 2 → ⊥) → (j < head_length) ⊎ (head_length + labels b ≤ j) → get_or (remapped b m) j 0
      ≡ get_or b j 0
  unfolding remapped
  remapped-other j q o =
      placed-other renewed (λ x. head_length + x) (λ x. get_or m (suc x) 0) (labels b) j
      (λ k l e. ⊎_elim (λ a. omega arith) (λ a. omega arith) o)
      ∙ get_or-set_other b 2 j (get_or m 0 0) 0 q

  pub remapped-length : length (remapped b m) ≡ length b
  unfolding remapped
  remapped-length =
      length-placed renewed (λ x. head_length + x) (λ x. get_or m (suc x) 0) (labels b) ∙ length-set b 2 (get_or m 0 0)

  pub remapped-alike : Alike b (remapped b m)
  remapped-alike =
      all_alike b (remapped b m) remapped-length (λ j l q. remapped-other j q (inl l))
      (λ j l. remapped-other j (λ e. omega arith) (inr l))

  -- its K and its map
  module _ (h : Sized b) where
    pub remapped-abstracts : abstracts (remapped b m) ≡ get_or m 0 0
    unfolding head_byte remapped
    remapped-abstracts =
        placed-other renewed (λ x. head_length + x) (λ x. get_or m (suc x) 0) (labels b) 2 (λ k l e. omega arith)
        ∙ get_or-set_same b 2 (get_or m 0 0) 0 (omega (arith, h.headed.long))

    pub remapped-map : (x : ℕ) → x < labels b → map_byte (remapped b m) x ≡ get_or m (suc x) 0
    unfolding map_byte remapped
    remapped-map x l =
        placed_at renewed (λ x. head_length + x) (λ x. get_or m (suc x) 0) (λ i j k. omega arith) (labels b) x l
        (omega (arith, length-set b 2 (get_or m 0 0), map-inside b h x l))

-- ---- validity

-- variables are bound by the same places
bound-alike :
    (n : ℕ) (left left' : ℕ → ℕ) → ((j : ℕ) → left' j ≡ left j) → (t : Term)
    → bound_in n left' t ≡ bound_in n left t
bound-alike n left left' e (Label x) = refl
bound-alike n left left' e (Variable v) =
    some-ext (λ j. eqb (left' j) v) (λ j. eqb (left j) v) n (λ j l. ap (λ (x : ℕ). eqb x v) (e j))
bound-alike n left left' e Dash = refl
bound-alike n left left' e Refused = refl

module _ {b c : List ℕ} (k : Alike b c) where
  side-alike :
      (side side' : ℕ → ℕ) → ((i : ℕ) → side' i ≡ side i) → side_ok c side' ≡ side_ok b side
  unfolding side_ok
  side-alike side side' e =
      ap (λ (n : ℕ). all n (λ i. term_ok (label_count c i) (term_of (side' i)))) k.positions_same
      ∙ all-ext (λ i. term_ok (label_count c i) (term_of (side' i))) (λ i. term_ok (label_count b i) (term_of (side i)))
      (positions b)
      (λ i l. ap₂ (λ (count : ℕ → ℕ) (x : ℕ). term_ok (count i) (term_of x)) k.labels_same (e i))

  terms-alike : terms_ok c ≡ terms_ok b
  unfolding terms_ok rule_terms_ok goal_terms_ok
  terms-alike =
      ap₂ ◌&&◌
      (ap (λ (n : ℕ). all n (λ r. side_ok c (left_of c r) && side_ok c (right_of c r))) k.rules_same
      ∙ all-ext (λ r. side_ok c (left_of c r) && side_ok c (right_of c r))
      (λ r. side_ok b (left_of b r) && side_ok b (right_of b r)) (rules b)
      (λ r l.
      ap₂ ◌&&◌ (side-alike (left_of b r) (left_of c r) (k.left_same r))
      (side-alike (right_of b r) (right_of c r) (k.right_same r))))
      (ap (λ (n : ℕ). all n (λ g. side_ok c (goal_of c g))) k.goals_same
      ∙ all-ext (λ g. side_ok c (goal_of c g)) (λ g. side_ok b (goal_of b g)) (goals b)
      (λ g l. side-alike (goal_of b g) (goal_of c g) (k.goal_same g)))

  rule-bound-alike : (r : ℕ) → rule_bound c r ≡ rule_bound b r
  unfolding rule_bound
  rule-bound-alike r =
      ap (λ (n : ℕ). all n (λ i. bound_in n (left_of c r) (term_of (right_of c r i)))) k.positions_same
      ∙ all-ext (λ i. bound_in (positions b) (left_of c r) (term_of (right_of c r i)))
      (λ i. bound_in (positions b) (left_of b r) (term_of (right_of b r i))) (positions b)
      (λ i m.
      ap (λ (x : ℕ). bound_in (positions b) (left_of c r) (term_of x)) (k.right_same r i)
      ∙ bound-alike (positions b) (left_of b r) (left_of c r) (k.left_same r) (term_of (right_of b r i)))

  bounds-alike : bound_ok c ≡ bound_ok b
  unfolding bound_ok
  bounds-alike =
      ap (λ (n : ℕ). all n (rule_bound c)) k.rules_same
      ∙ all-ext (rule_bound c) (rule_bound b) (rules b) (λ r l. rule-bound-alike r)

  pub labels-alike : labels c ≡ labels b
  unfolding label_count
  labels-alike = ap (λ (count : ℕ → ℕ). count 0) k.labels_same

  -- its own K, the number of its abstract states and its map are right
  pub alike-valid :
      Valid b → 1 ≤ abstracts c → abstracts c ≤ labels b → abstract_states c ≤ 16384 → map_ok c ≡ true → Valid c
  alike-valid v low high few map =
      let z = v.sized.headed.sizes in
      record {
        sized =
            record {
              headed =
                  record {
                    long = omega (arith, k.length_same, v.sized.headed.long);
                    sizes =
                        record {
                          n_low = omega (arith, k.positions_same, z.n_low);
                          n_high = omega (arith, k.positions_same, z.n_high);
                          l_low = omega (arith, labels-alike, z.l_low);
                          l_high = omega (arith, labels-alike, z.l_high);
                          k_low = low;
                          k_high = omega (arith, labels-alike, high);
                          r_high = omega (arith, k.rules_same, z.r_high);
                          g_low = omega (arith, k.goals_same, z.g_low);
                          g_high = omega (arith, k.goals_same, z.g_high);
                        };
                    few = few;
                  };
              len = k.length_same ∙ v.sized.len ∙ sym k.size_same;
            };
        mapped = map;
        terms = terms-alike ∙ v.terms;
        bound = bounds-alike ∙ v.bound;
      }
