-- What compiled arrays mean: each part of matching, a rule applies to a word, and what it makes of it, as the language
-- says of the word's state (`mismatch-word`, `matches-word`, `applies-word`, `step-word`, `step_small`, `cost-word`),
-- goals likewise (`meets_word_lem`, `met-goal-word`), and the rank of the relabelled state (`rank-word`). The words of
-- states and of ranks hold those states (`state-word`, `unpack-word-of`). The tables and the search rest on these.
use Rattle.std.proofs.Common.{◌≡◌, ℕ, zero, suc, ◌+◌, ◌*◌, ◌/◌, ◌^◌, ◌<◌, ◌≤◌, true, not, ◌&&◌, ◌⊎◌, List, get_or, sym}
use Rattle.std.proofs.Common.{refl, ap, ◌∙◌, ap₂, inl, inr, ⊎_elim, add_assoc, arith}
use Rattle.basics.proofs.Bounded.{all_past, all-ext, some-ext, find_past, find-ext}
use Rattle.basics.proofs.Comparing.{same?}
use Rattle.blocks.specs.Terms.{term_of}
use Rattle.blocks.specs.Layout.{positions, rules, goals, label_count, abstract_count, cost_of, goal_of}
use Rattle.blocks.specs.Validity.{Headed}
use Rattle.blocks.specs.States.{state_ok}
use Rattle.blocks.proofs.StateLaws.{labelled-length, labelled-at, state-length, state-label, abstract-count-low}
use Rattle.blocks.proofs.StateLaws.{label-below}
use Rattle.psvn.specs.Rules.{matches, applies, step, goal_met, meets, met_goal}
use Rattle.psvn.specs.TwoParts.{constant_allows, constant_agrees, constants_agree, constant_mismatch}
use Rattle.psvn.specs.Relabelling.{relabel_state}
use Rattle.psvn.specs.Ranks.{rank, unrank}
use Rattle.psvn.proofs.MatchingLaws.{two-parts}
use Rattle.psvn.proofs.RankLaws.{unrank-abstract}
use Rattle.words.specs.Packing.{digit, digit_pair, pack, unpack}
use Rattle.words.specs.Sides.{goal_place, constant_agrees_word, constants_word, mismatch_word, matches_word}
use Rattle.words.specs.Sides.{applies_word, step_word, cost_word, meets_word, met_goal_word}
use Rattle.words.specs.Ranking.{rank_pairs, rank_word, word_of, weight_of}
use Rattle.words.specs.Compiled.{Tested, Weighted, Compiled}
use Rattle.words.proofs.WordDigits.{Small, digit_lt, pack-below, unpack-pack}
use Rattle.words.proofs.WordDigits.{unpack-at}
use Rattle.words.proofs.WordRanks.{labels_rank, labels-rank}

-- the pairs that n positions make, and the position that is left where n is odd
even-or-odd : (n : ℕ) → (2 * (n / 2) ≡ n) ⊎ (suc (2 * (n / 2)) ≡ n)
even-or-odd n = ⊎_elim (λ e. inl e) (λ d. inr (omega arith)) (same? (2 * (n / 2)) n)

-- a side that tests: each part of matching on words is that of the language on the word's state
module _ {n : ℕ} {side : ℕ → ℕ} {code : List ℕ} {x : ℕ} (few : n ≤ 16) (t : Tested n side code x) (w : ℕ) where
  constant-word : (i : ℕ) → i < n → constant_agrees_word code x w i ≡ constant_agrees side (unpack n w) i
  constant-word i l =
      t.constants i (digit w i) l (digit_lt w i) ∙ ap (constant_allows (term_of (side i))) (sym (unpack-at n w i l))

  -- the first one
  pub mismatch-word : mismatch_word code x w ≡ constant_mismatch n side (unpack n w)
  unfolding mismatch_word constant_mismatch
  mismatch-word =
      find_past (λ i. not (constant_agrees_word code x w i)) 16 n few (λ i l m.
      ap not (t.nothing_behind i (digit w i) l))
      ∙ find-ext (λ i. not (constant_agrees_word code x w i)) (λ i. not (constant_agrees side (unpack n w) i)) n (λ i l.
      ap not (constant-word i l))

  constants-word : constants_word code x w ≡ constants_agree n side (unpack n w)
  unfolding constants_word constants_agree
  constants-word =
      all_past (constant_agrees_word code x w) 16 n few (λ i l m. t.nothing_behind i (digit w i) l)
      ∙ all-ext (constant_agrees_word code x w) (constant_agrees side (unpack n w)) n constant-word

  -- both
  pub matches-word : matches_word code x w ≡ matches n side (unpack n w)
  unfolding matches_word
  matches-word = ap₂ ◌&&◌ constants-word (t.variables w) ∙ sym (two-parts n side (unpack n w))

module _ {b code : List ℕ} (c : Compiled b code) where
  few : positions b ≤ 16
  few = c.valid.sized.headed.sizes.n_high

  pub applies-word : (r w : ℕ) → r < rules b → applies_word code r w ≡ applies b r (unpack (positions b) w)
  unfolding applies
  applies-word r w lr = matches-word few (c.rule r lr).left w

  pub step-word :
      (r w : ℕ) → r < rules b → w < 16 ^ positions b
      → unpack (positions b) (step_word code r w) ≡ step b r (unpack (positions b) w)
  unfolding step
  step-word r w lr l = (c.rule r lr).right.makes w l

  pub step_small : (r w : ℕ) → r < rules b → w < 16 ^ positions b → step_word code r w < 16 ^ positions b
  step_small r w lr l = (c.rule r lr).right.small w l

  pub cost-word : (r : ℕ) → r < rules b → cost_word code r ≡ cost_of b r
  cost-word r lr = (c.rule r lr).cost

  pub meets_word_lem : (w : ℕ) → meets_word code (goals b) w ≡ meets b (unpack (positions b) w)
  unfolding meets goal_met
  meets_word_lem w =
      some-ext (λ g. matches_word code (goal_place g) w)
      (λ g. matches (positions b) (goal_of b g) (unpack (positions b) w)) (goals b) (λ g lg.
      matches-word few (c.goal g lg) w)

  pub met-goal-word : (w : ℕ) → met_goal_word code (goals b) w ≡ met_goal b (unpack (positions b) w)
  unfolding met_goal_word met_goal goal_met
  met-goal-word w =
      find-ext (λ g. matches_word code (goal_place g) w)
      (λ g. matches (positions b) (goal_of b g) (unpack (positions b) w)) (goals b) (λ g lg.
      matches-word few (c.goal g lg) w)

module _ {b weights : List ℕ} (t : Weighted b weights) where
  module _ (w : ℕ) (ok : state_ok b (unpack (positions b) w) ≡ true) where
    digit_low : (j : ℕ) → j < positions b → digit w j < label_count b j
    digit_low j l =
        omega (arith, state-label b (unpack (positions b) w) ok j l, unpack-at (positions b) w j l)

    weight-at : (j : ℕ) → j < positions b → weight_of b j (digit w j)
        ≡ weight_of b j (get_or (unpack (positions b) w) j 0)
    weight-at j l = ap (weight_of b j) (sym (unpack-at (positions b) w j l))

    -- the weights of the pairs are those of their labels
    pairs-sum : (k : ℕ) → 2 * k ≤ positions b → rank_pairs weights k w ≡ labels_rank b (unpack (positions b) w) (2 * k)
    unfolding rank_pairs digit_pair
    pairs-sum zero l = refl
    pairs-sum (suc k) l =
        let two : suc (suc (2 * k)) ≡ 2 * suc k = omega arith in
        let sum = labels_rank b (unpack (positions b) w) in
        let first = weight-at (2 * k) (omega arith) in
        let second = weight-at (suc (2 * k)) (omega arith) in
        let pair =
        t.pair k (digit w (2 * k)) (digit w (suc (2 * k))) (omega arith) (digit_low (2 * k) (omega arith))
        (digit_low (suc (2 * k)) (omega arith)) in
        ap₂ ◌+◌ (pairs-sum k (omega arith)) (pair ∙ ap₂ ◌+◌ first second) ∙ sym (add_assoc (sum (2 * k)) _ _)
        ∙ ap sum two

    all-pairs :
        (k : ℕ) → (2 * k ≡ positions b) ⊎ (suc (2 * k) ≡ positions b)
        → rank_word weights (positions b) w ≡ labels_rank b (unpack (positions b) w) (positions b)
    unfolding rank_word rank_pairs digit_pair
    all-pairs k (inl e) =
        let half : (positions b + 1) / 2 ≡ k = omega arith in
        ap (λ (j : ℕ). rank_pairs weights j w) half ∙ pairs-sum k (omega arith)
        ∙ ap (labels_rank b (unpack (positions b) w)) e
    all-pairs k (inr e) =
        let half : (positions b + 1) / 2 ≡ suc k = omega arith in
        ap (λ (j : ℕ). rank_pairs weights j w) half
        ∙ ap₂ ◌+◌ (pairs-sum k (omega arith))
        (t.final k (digit w (2 * k)) (digit w (suc (2 * k))) e (digit_low (2 * k) (omega arith))
        (digit_lt w (suc (2 * k)))
        ∙ weight-at (2 * k) (omega arith))
        ∙ ap (labels_rank b (unpack (positions b) w)) e

    pub rank-word : rank_word weights (positions b) w ≡ rank b (relabel_state b (unpack (positions b) w))
    rank-word = all-pairs (positions b / 2) (even-or-odd (positions b)) ∙ labels-rank b (unpack (positions b) w)

-- the words of states and of ranks
module _ {b : List ℕ} (h : Headed b) where
  pub state-word : (s : List ℕ) → state_ok b s ≡ true → (unpack (positions b) (pack s) ≡ s)
      × (pack s < 16 ^ positions b)
  state-word s ok =
      let e = state-length b s ok in
      let small : Small s = λ k l. label-below b h s ok k (omega arith) in
      (unpack-pack (positions b) s e small, rw (sym e) (pack-below s small))

  unrank-small : (k : ℕ) → Small (unrank b k)
  unrank-small k i l =
      let ok = unrank-abstract b h k in
      omega (
        arith,
        labelled-at (positions b) (abstract_count b) (unrank b k) ok i
            (omega (arith, labelled-length (positions b) (abstract_count b) (unrank b k) ok)),
        abstract-count-low b h i,
      )

  pub word-of-small : (k : ℕ) → word_of b k < 16 ^ positions b
  unfolding word_of
  word-of-small k =
      rw (sym (labelled-length (positions b) (abstract_count b) (unrank b k) (unrank-abstract b h k)))
      (pack-below (unrank b k) (unrank-small k))

  pub unpack-word-of : (k : ℕ) → unpack (positions b) (word_of b k) ≡ unrank b k
  unfolding word_of
  unpack-word-of k =
      unpack-pack (positions b) (unrank b k)
      (labelled-length (positions b) (abstract_count b) (unrank b k) (unrank-abstract b h k)) (unrank-small k)
