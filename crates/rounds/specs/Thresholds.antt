-- The thresholds of the rounds that a search with no allowance makes (`thresholds`), and how they follow one another
-- (`Consecutive`, `RoundAt`). Visits are counted over these rounds: `round_visits` are those of one, and
-- `VisitsCounted` says what they are for an answer.
use Rattle.std.specs.Prelude.{◌≡◌, cond, List, [], ◌∷◌, map, ℕ, zero, suc, ◌≤◌, ◌<◌, leb, length}
use Rattle.basics.specs.Lists.{total}
use Rattle.rounds.specs.Systems.{System, Estimate, mark, at}
use Rattle.rounds.specs.Rounds.{Allowance, free, Progress, on, hit, stop, Answer, found, no_plan, spent, round}
use Rattle.rounds.specs.Promises.{NextThreshold}
use Rattle.rounds.specs.Logs.{lists_of, round_log}

-- the next threshold after a round: the least overshoot that it leaves, and none where it ends the search
abbrev pub next_after : Progress → Estimate
next_after (on u o) = o
next_after (hit u p c) = mark
next_after (stop u) = mark

module _ (Y : System) (h : Y.State → Estimate) (D : ℕ) (s : Y.State) where
  -- the visits of one round with no allowance: the lists of its log
  abbrev pub round_visits : ℕ → ℕ
  round_visits T = length (lists_of (round_log Y h T D s))

  -- each threshold of a list but the first is the next one after a round at the one before: its least overshoot
  abbrev pub Consecutive : List ℕ → Type 0
  Consecutive [] = Unit {0}
  Consecutive (T ∷ []) = Unit {0}
  Consecutive (T ∷ n ∷ ns) = NextThreshold Y h T D s (at n) × Consecutive (n ∷ ns)

module _ (Y : System) (h : Y.State → Estimate) (D B : ℕ) (s : Y.State) where
  -- the thresholds of at most n rounds, the first at e: none with the mark, none above B, and none after a round that
  -- ends with the plan
  unfoldable pub thresholds_from : ℕ → Estimate → List ℕ
  thresholds_from zero e = []
  thresholds_from (suc n) mark = []
  thresholds_from (suc n) (at T) = cond (leb T B) (T ∷ thresholds_from n (next_after (round Y h free D s T 0))) []

  -- the thresholds of a search: first the start's estimate; they rise, so that B + 1 rounds come above B
  unfoldable pub thresholds : List ℕ
  thresholds = thresholds_from (suc B) (h s)

  -- the visits of all its rounds
  abbrev pub all_visits : ℕ
  all_visits = total (map (round_visits Y h D s) thresholds)

  -- what the visits of an answer are, with an allowance of v: those of all rounds where the search comes to their end,
  -- and else the allowance
  abbrev pub VisitsCounted : ℕ → Answer → Type 0
  VisitsCounted v (found u p c) = (u ≡ all_visits) × (u ≤ v)
  VisitsCounted v (no_plan u) = (u ≡ all_visits) × (u ≤ v)
  VisitsCounted v (spent u) = (u ≡ v) × (v < all_visits)

  -- the search with an allowance comes to the threshold T after u visits
  pub data RoundAt (A : Allowance) : ℕ → ℕ → Type 0 where
    first_round : (T : ℕ) → h s ≡ at T → RoundAt A T 0
    further : (T u w n : ℕ) → RoundAt A T u → T ≤ B → round Y h A D s T u ≡ on w (at n) → RoundAt A n w
