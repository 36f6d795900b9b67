-- The test by sides, over the lists that `find_edges` leaves: labels add to the ranks by a
-- rule's sides and a goal's (`rule-first`, `rule-second`, `goal-first`, `goal-second`), each
-- state that a side matches stands in its list, and so does where the rule leads
-- (`rule-listed`, `goal-listed`; `edges-listed`, `zeros-listed` at the fronts of arrays); and what passes by every
-- rule and goal passes (`sides-pass`).
use mathlib.Core.Path.{◌≡◌, refl, sym, ap, ◌∙◌}
use mathlib.Core.Bool.{Bool, true, false}
use mathlib.Core.List.{List}
use Prim.Native.Nat.{ℕ, ◌%◌, ◌<◌}
use native.Mathlib.Nat.{mod-eq_of_lt}
use native.Mathlib.Omega.{arith}
use lib.ListN.{length, get_or, take}
use lib.Seq.{get_or-take}
use Rattle.basics.proofs.Bounded.{first_holds}
use Rattle.blocks.specs.Terms.{term_of, term_ok}
use Rattle.blocks.specs.Layout.{positions, labels, label_count, rules, goals, cost_of, left_of, right_of, goal_of}
use Rattle.blocks.specs.Layout.{abstract_states}
use Rattle.blocks.specs.States.{state_ok}
use Rattle.blocks.proofs.Accepted.{left-side, right_side, goal-side, side-term}
use Rattle.blocks.proofs.StateLaws.{state-length, state-label}
use Rattle.psvn.specs.Rules.{matches, rewritten, applies, goal_met, meets}
use Rattle.psvn.specs.Relabelling.{relabel_state}
use Rattle.psvn.specs.Ranks.{rank, unrank}
use Rattle.psvn.proofs.Making.{matches-itself}
use Rattle.psvn.proofs.RankLaws.{rank-unrank}
use Rattle.words.specs.Code.{position_count}
use Rattle.words.specs.Sides.{rewritten_word, cost_word, left_place, right_place, goal_place}
use Rattle.words.specs.Ranking.{rank_word, word_of}
use Rattle.words.specs.Compiled.{Sided}
use Rattle.words.proofs.Meaning.{cost-word, rank-word, unpack-word-of, word-of-small}
use Rattle.words.proofs.WordDigits.{unpack-injective, unpack-at}
use Rattle.distances.specs.LowerBounds.{passes}
use Rattle.distances.proofs.Passing.{passes-intro}
use Rattle.edge_ranks.specs.Lists.{rank_at, first_rank, second_rank, Labels, Additive, Listed}
use Rattle.edge_ranks.proofs.Listing.{from_all}
use Rattle.edge_ranks.proofs.Additivity.{additive-first, additive-second}
use Rattle.tables.specs.Abstraction.{step_rank, graph_of, Ready}
use Rattle.tables.specs.BySides.{Bounded, EdgesPass, Zeros, RulePasses, GoalPasses}
use Rattle.tables.proofs.WordEdges.{headed, unranked, few, word-leads, step-out}

-- the same entries and cost
moved_to :
    (t : List ℕ) {u u' c c' v v' : ℕ} → u ≡ u' → c ≡ c' → v ≡ v' → Bounded (get_or t u 0) c (get_or t v 0)
    → Bounded (get_or t u' 0) c' (get_or t v' 0)
moved_to t e f g h = rw (sym e, sym f, sym g) h

module _ (a code weights : List ℕ) (ready : Ready a code weights) where
  some : 0 < labels a
  some = (headed a code weights ready).sizes.l_low

  -- labels add to the ranks
  module _ (r : ℕ) (l : r < rules a) where
    left-terms : (i : ℕ) → i < positions a → term_ok (labels a) (term_of (left_of a r i)) ≡ true
    unfolding label_count
    left-terms i h = side-term a (left_of a r) (left-side a ready.relabelled.valid r l) i h

    right-terms : (i : ℕ) → i < positions a → term_ok (labels a) (term_of (right_of a r i)) ≡ true
    unfolding label_count
    right-terms i h = side-term a (right_of a r) (right_side a ready.relabelled.valid r l) i h

    pub rule-first : Additive (position_count code) (labels a) (first_rank code weights (left_place r))
    rule-first =
        additive-first ready.compiled ready.weighted some (left_place r) (left_of a r) (left_of a r)
        (ready.compiled.rule r l).left.sided left-terms

    pub rule-second : Additive (position_count code) (labels a)
        (second_rank code weights (left_place r) (right_place r))
    rule-second =
        additive-second ready.compiled ready.weighted some (left_place r) (left_of a r) (left_of a r)
        (ready.compiled.rule r l).left.sided left-terms (right_place r) (left_of a r) (right_of a r)
        (ready.compiled.rule r l).right right-terms

  module _ (g : ℕ) (l : g < goals a) where
    goal-terms : (i : ℕ) → i < positions a → term_ok (labels a) (term_of (goal_of a g i)) ≡ true
    unfolding label_count
    goal-terms i h = side-term a (goal_of a g) (goal-side a ready.relabelled.valid g l) i h

    pub goal-first : Additive (position_count code) (labels a) (first_rank code weights (goal_place g))
    goal-first =
        additive-first ready.compiled ready.weighted some (goal_place g) (goal_of a g) (goal_of a g)
        (ready.compiled.goal g l).sided goal-terms

    pub goal-second : Additive (position_count code) (labels a) (second_rank code weights (goal_place g) (goal_place g))
    goal-second =
        additive-second ready.compiled ready.weighted some (goal_place g) (goal_of a g) (goal_of a g)
        (ready.compiled.goal g l).sided goal-terms (goal_place g) (goal_of a g) (goal_of a g)
        (ready.compiled.goal g l).sided goal-terms

  -- the word of a rank
  module _ (u : ℕ) (i : u < abstract_states a) where
    word-labels : Labels (positions a) (labels a) (word_of a u)
    unfolding label_count
    word-labels = (
      word-of-small (headed a code weights ready) u,
      λ j l.
          let h = headed a code weights ready in
          let e =
          sym (unpack-at (positions a) (word_of a u) j l) ∙ ap (λ (s : List ℕ). get_or s j 0) (unpack-word-of h u) in
          omega (arith, e, state-label a (unrank a u) (unranked a code weights ready u) j l),
    )

    word-rank : rank_word weights (positions a) (word_of a u) ≡ u
    word-rank =
        let h = headed a code weights ready in
        let e = unpack-word-of h u in
        let ok = unranked a code weights ready u in
        rank-word ready.weighted (word_of a u) (ap (state_ok a) e ∙ ok)
        ∙ ap (λ (s : List ℕ). rank a (relabel_state a s)) e
        ∙ ap (rank a) (ready.relabelled.same (unrank a u) ok) ∙ rank-unrank a h u i

    -- a side that matches its state makes the word of itself
    self-made :
        (x : ℕ) (side : ℕ → ℕ) → Sided (positions a) side side code x → matches (positions a) side (unrank a u) ≡ true
        → rewritten_word code x (word_of a u) ≡ word_of a u
    self-made x side s m =
        let h = headed a code weights ready in
        let w = word_of a u in
        let l = word-of-small h u in
        let e = unpack-word-of h u in
        let n = positions a in
        unpack-injective n (rewritten_word code x w) w (s.small w l) l
        (s.makes w l ∙ ap (rewritten n side side) e
        ∙ matches-itself n side (unrank a u) (state-length a (unrank a u) (unranked a code weights ready u)) m ∙ sym e)

    -- its place in the list of the side
    listed-there :
        (x : ℕ) (side : ℕ → ℕ) → Sided (positions a) side side code x → matches (positions a) side (unrank a u) ≡ true
        → (y : ℕ) (sources targets : ℕ → ℕ) (count : ℕ)
        → Listed (first_rank code weights x) (second_rank code weights x y) (position_count code) (labels a) 0
        sources targets count
        → (j : ℕ) × (j < count) × (sources j ≡ u)
        × (targets j ≡ rank_word weights (positions a) (rewritten_word code y (word_of a u)) % 16384)
    unfolding first_rank second_rank
    listed-there x side s m y sources targets count h =
        let (j, l, es, et) = (rw ready.compiled.counted.positions_told at h) (word_of a u) word-labels in
        let n = positions a in
        let e = from_all (word_of a u) in
        let self = self-made x side s m in (
          j,
          l,
          es ∙ ap (λ (w : ℕ). rank_word weights n (rewritten_word code x w) % 16384) e
              ∙ ap (λ (w : ℕ). rank_word weights n w % 16384) self
              ∙ ap (λ (k : ℕ). k % 16384) word-rank ∙ mod-eq_of_lt (omega (arith, i, few a code weights ready)),
          et ∙ ap (λ (w : ℕ). rank_word weights n (rewritten_word code y (rewritten_word code x w)) % 16384) e
              ∙ ap (λ (w : ℕ). rank_word weights n (rewritten_word code y w) % 16384) self,
        )

  -- a rule whose edges pass
  pub rule-listed :
      (t : List ℕ) (r : ℕ) → r < rules a → (sources targets : ℕ → ℕ) (count cost : ℕ)
      → Listed (first_rank code weights (left_place r)) (second_rank code weights (left_place r) (right_place r))
      (position_count code) (labels a) 0 sources targets count
      → cost ≡ cost_word code r → EdgesPass t sources targets count cost → RulePasses (graph_of a) t r
  unfolding applies
  rule-listed t r l sources targets count cost h c p u i v = go (applies a r (unrank a u)) refl
    where
      go : (x : Bool) → applies a r (unrank a u) ≡ x
          → Bounded (get_or t u 0) (cost_of a r) (get_or t (step_rank a u r) 0)
      go true e =
          let s = ready.compiled.rule r l in
          let (j, k, es, et) =
          listed-there u i (left_place r) (left_of a r) s.left.sided e (right_place r) sources targets count h in
          let to : targets j ≡ step_rank a u r =
          et ∙ ap (λ (z : ℕ). z % 16384) (word-leads a code weights ready u r l e)
          ∙ mod-eq_of_lt (omega (arith, v, few a code weights ready)) in
          moved_to t es (c ∙ cost-word ready.compiled r l) to (p j k)
      go false e = let k = step-out a code weights ready u r l e in absurd (omega (arith, k, v))

  -- a goal whose entries are 0
  pub goal-listed :
      (t : List ℕ) (g : ℕ) → g < goals a → (sources targets : ℕ → ℕ) (count : ℕ)
      → Listed (first_rank code weights (goal_place g)) (second_rank code weights (goal_place g) (goal_place g))
      (position_count code) (labels a) 0 sources targets count
      → Zeros t sources count → GoalPasses a t g
  unfolding goal_met
  goal-listed t g l sources targets count h z u i m =
      let (j, k, es, et) =
      listed-there u i (goal_place g) (goal_of a g) (ready.compiled.goal g l).sided m (goal_place g) sources targets
      count h in
      ap (λ (x : ℕ). get_or t x 0) (sym es) ∙ z j k

-- the ranks listed stand at the front of their arrays
module _ (t sources : List ℕ) (count : ℕ) (long : length (take count sources) ≡ count) where
  pub zeros-listed :
      Zeros t (rank_at (take count sources)) (length (take count sources)) → Zeros t (rank_at sources) count
  zeros-listed h j l = rw (get_or-take count sources j 0 l) at (h j (omega arith))

  pub edges-listed :
      (targets : List ℕ) (cost : ℕ)
      → EdgesPass t (rank_at (take count sources)) (rank_at (take count targets)) (length (take count sources)) cost
      → EdgesPass t (rank_at sources) (rank_at targets) count cost
  edges-listed targets cost h j l =
      rw (get_or-take count sources j 0 l, get_or-take count targets j 0 l) at
      (h j (omega arith))

-- all rules and goals
pub sides-pass :
    (a t : List ℕ) → ((g : ℕ) → g < goals a → GoalPasses a t g) → ((r : ℕ) → r < rules a → RulePasses (graph_of a) t r)
    → passes (graph_of a) t ≡ true
unfolding meets
sides-pass a t gs rs =
    passes-intro (graph_of a) t
    (λ u i m.
    let k = first_holds (λ g. goal_met a g (unrank a u)) (goals a) m in
    gs _ k.0 u i k.1)
    (λ u r i l v. rs r l u i v)
