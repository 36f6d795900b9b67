-- What the conditions on a block give: the head's limits (`headed`), and that a block is accepted exactly where it is
-- `Valid` (`accepted-valid`, `valid-accepted`; part by part, `shape-sized`, `content-valid`); then each abstract label,
-- term and right variable of a valid block by itself. Every theorem on valid blocks rests on these.
use mathlib.Core.Path.{◌≡◌, ◌∙◌}
use mathlib.Core.Bool.{true, ◌&&◌}
use mathlib.Core.List.{List, [], ◌∷◌}
use Prim.Native.Nat.{ℕ, ◌≤◌, ◌<◌}
use lib.Dec.{leb, ltb}
use lib.ListN.{length}
use borrow.Author.Tests.{leb-true, le-leb, ltb-true, eqb-true, eq-eqb}
use Rattle.basics.proofs.Truth.{and-true, and_intro}
use Rattle.basics.proofs.Bounded.{all-at}
use Rattle.refusals.specs.Answers.{told, verdict, ◌unless◌}
use Rattle.refusals.proofs.Verdicts.{verdict-told, verdict-behind, verdict-parts}
use Rattle.blocks.specs.Terms.{term_of, term_ok}
use Rattle.blocks.specs.Layout.{positions, labels, abstracts, rules, goals, label_count, abstract_count}
use Rattle.blocks.specs.Layout.{abstract_states, head_length, map_byte, map_at, left_of, right_of, goal_of}
use Rattle.blocks.specs.Layout.{block_length}
use Rattle.blocks.specs.Validity.{within, sizes_ok, head_ok, length_ok, map_ok, side_ok, rule_terms_ok, goal_terms_ok}
use Rattle.blocks.specs.Validity.{terms_ok, bound_in, rule_bound, bound_ok}
use Rattle.blocks.specs.Validity.{shape_conditions, content_conditions, block_conditions, Sizes, Headed, Sized, Valid}

within-limits : (low x high : ℕ) → within low x high ≡ true → (low ≤ x) × (x ≤ high)
within-limits low x high h =
    let p = and-true (leb low x) (leb x high) h in (leb-true low x p.0, leb-true x high p.1)

within-intro : (low x high : ℕ) → low ≤ x → x ≤ high → within low x high ≡ true
within-intro low x high a b = and_intro (leb low x) (leb x high) (le-leb low x a) (le-leb x high b)

module _ (b : List ℕ) where
  -- the head's numbers
  pub sizes : sizes_ok b ≡ true → Sizes b
  unfolding sizes_ok
  sizes h =
      let n = and-true (within 1 (positions b) 16) _ h in
      let l = and-true (within 1 (labels b) 16) _ n.1 in
      let k = and-true (within 1 (abstracts b) (labels b)) _ l.1 in
      let r = and-true (leb (rules b) 64) (within 1 (goals b) 8) k.1 in
      let n' = within-limits 1 (positions b) 16 n.0 in
      let l' = within-limits 1 (labels b) 16 l.0 in
      let k' = within-limits 1 (abstracts b) (labels b) k.0 in
      let g' = within-limits 1 (goals b) 8 r.1 in
      record {
        n_low = n'.0;
        n_high = n'.1;
        l_low = l'.0;
        l_high = l'.1;
        k_low = k'.0;
        k_high = k'.1;
        r_high = leb-true (rules b) 64 r.0;
        g_low = g'.0;
        g_high = g'.1;
      }

  pub headed : head_ok b ≡ true → Headed b
  unfolding head_ok
  headed h =
      let p = and-true (leb head_length (length b)) _ h in
      let q = and-true (sizes_ok b) (leb (abstract_states b) 16384) p.1 in
      record {
        long = leb-true head_length (length b) p.0;
        sizes = sizes q.0;
        few = leb-true (abstract_states b) 16384 q.1;
      }

  pub head_ok_lem : Headed b → head_ok b ≡ true
  unfolding head_ok sizes_ok
  head_ok_lem h =
      let z = h.sizes in
      and_intro (leb head_length (length b)) _ (le-leb head_length (length b) h.long)
      (and_intro (sizes_ok b) (leb (abstract_states b) 16384)
      (and_intro (within 1 (positions b) 16) _ (within-intro 1 (positions b) 16 z.n_low z.n_high)
      (and_intro (within 1 (labels b) 16) _ (within-intro 1 (labels b) 16 z.l_low z.l_high)
      (and_intro (within 1 (abstracts b) (labels b)) _ (within-intro 1 (abstracts b) (labels b) z.k_low z.k_high)
      (and_intro (leb (rules b) 64) (within 1 (goals b) 8) (le-leb (rules b) 64 z.r_high)
      (within-intro 1 (goals b) 8 z.g_low z.g_high)))))
      (le-leb (abstract_states b) 16384 h.few))

  pub sized : head_ok b ≡ true → length_ok b ≡ true → Sized b
  unfolding length_ok
  sized h l = record { headed = headed h; len = eqb-true (length b) (block_length b) l }

  pub length-ok : Sized b → length_ok b ≡ true
  unfolding length_ok
  length-ok h = eq-eqb (length b) (block_length b) h.len

  pub shape-sized : verdict (shape_conditions b) ≡ told tt → Sized b
  unfolding shape_conditions
  shape-sized h =
      let p₃ = verdict-told 3 (head_ok b) (4 unless length_ok b ∷ []) h in
      sized p₃.0 (verdict-told 4 (length_ok b) [] p₃.1).0

  pub shape-accepted : Sized b → verdict (shape_conditions b) ≡ told tt
  unfolding shape_conditions
  shape-accepted s = rw (head_ok_lem s.headed, length-ok s)

  pub content-valid : Sized b → verdict (content_conditions b) ≡ told tt → Valid b
  unfolding content_conditions
  content-valid s h =
      let c₆ = 6 unless terms_ok b in
      let c₇ = 7 unless bound_ok b in
      let p₅ = verdict-told 5 (map_ok b) (c₆ ∷ c₇ ∷ []) h in
      let p₆ = verdict-told 6 (terms_ok b) (c₇ ∷ []) p₅.1 in
      let p₇ = verdict-told 7 (bound_ok b) [] p₆.1 in
      record { sized = s; mapped = p₅.0; terms = p₆.0; bound = p₇.0 }

  pub content-accepted : Valid b → verdict (content_conditions b) ≡ told tt
  unfolding content_conditions
  content-accepted v = rw (v.mapped, v.terms, v.bound)

  pub accepted-valid : verdict (block_conditions b) ≡ told tt → Valid b
  unfolding block_conditions
  accepted-valid h =
      let p = verdict-parts (shape_conditions b) (content_conditions b) h in
      content-valid (shape-sized p.0) p.1

  pub valid-accepted : Valid b → verdict (block_conditions b) ≡ told tt
  unfolding block_conditions
  valid-accepted v =
      verdict-behind (shape_conditions b) (content_conditions b) (shape-accepted v.sized) ∙ content-accepted v

  module _ (v : Valid b) where
    pub map_below : (i x : ℕ) → x < label_count b i → map_at b i x < abstract_count b i
    unfolding map_ok map_at label_count abstract_count
    map_below i x l = ltb-true _ _ (all-at (λ x. ltb (map_byte b x) (abstracts b)) (labels b) v.mapped x l)

    -- the sides of rule r, and of goal g
    sides : (r : ℕ) → r < rules b → (side_ok b (left_of b r) ≡ true) × (side_ok b (right_of b r) ≡ true)
    unfolding terms_ok rule_terms_ok
    sides r l =
        and-true (side_ok b (left_of b r)) (side_ok b (right_of b r))
        (all-at (λ r. side_ok b (left_of b r) && side_ok b (right_of b r)) (rules b)
        (and-true (rule_terms_ok b) (goal_terms_ok b) v.terms).0 r l)

    pub left-side : (r : ℕ) → r < rules b → side_ok b (left_of b r) ≡ true
    left-side r l = (sides r l).0

    pub right_side : (r : ℕ) → r < rules b → side_ok b (right_of b r) ≡ true
    right_side r l = (sides r l).1

    pub goal-side : (g : ℕ) → g < goals b → side_ok b (goal_of b g) ≡ true
    unfolding terms_ok goal_terms_ok
    goal-side g l =
        all-at (λ g. side_ok b (goal_of b g)) (goals b) (and-true (rule_terms_ok b) (goal_terms_ok b) v.terms).1 g l

    pub right_bound :
        (r : ℕ) → r < rules b → (i : ℕ) → i < positions b
        → bound_in (positions b) (left_of b r) (term_of (right_of b r i)) ≡ true
    unfolding bound_ok rule_bound
    right_bound r lr i li =
        all-at (λ i. bound_in (positions b) (left_of b r) (term_of (right_of b r i))) (positions b)
        (all-at (rule_bound b) (rules b) v.bound r lr) i li

  -- a term of a side
  pub side-term :
      (side : ℕ → ℕ) → side_ok b side ≡ true → (i : ℕ) → i < positions b
      → term_ok (label_count b i) (term_of (side i)) ≡ true
  unfolding side_ok
  side-term side h i l = all-at (λ i. term_ok (label_count b i) (term_of (side i))) (positions b) h i l
