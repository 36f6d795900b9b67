-- The lists that a round with no allowance visits, in the order of the visits: its log (`round_log`), built beside the
-- round, part by part. Visits are counted list by list, a list anew in each round, with it (`round_visits`); `Logged`
-- says by figures which lists they are, and `Rising` their order.
use Rattle.std.specs.Prelude.{◌≡◌, ◌⊎◌, Bool, true, false, List, [], ◌∷◌, ◌++◌, map, ℕ, zero, suc, ◌+◌}
use Rattle.rounds.specs.Systems.{System, Estimate}
use Rattle.rounds.specs.OpenLists.{Before, Sooner, Open, Reaches}
use Rattle.rounds.specs.Rounds.{Offer, cut, overshoot, due, offer}
use Rattle.rounds.specs.Promises.{InRound}

-- the lists visited, and whether the last meets a goal
pub data Log : Type 0 where
  log : (lists : List (List ℕ)) (ended : Bool) → Log

-- the lists of a log
abbrev pub lists_of : Log → List (List ℕ)
lists_of (log xs b) = xs

-- p is one of a list
abbrev pub Member : {A : Type 0} → A → List A → Type 0
Member p [] = ⊥
Member p (x ∷ xs) = (p ≡ x) ⊎ Member p xs

-- each list comes before all those behind it, so that none occurs twice
abbrev pub Rising : List (List ℕ) → Type 0
Rising [] = Unit {0}
Rising (x ∷ xs) = ((q : List ℕ) → Member q xs → Sooner x q) × Rising xs

-- the lists of a log behind others
abbrev pub log_after : List (List ℕ) → Log → Log
log_after xs (log ys b) = log (xs ++ ys) b

-- the log of `and_then`
unfoldable pub log_then : Log → Log → Log
log_then (log xs true) l = log xs true
log_then (log xs false) l = log_after xs l

-- the log of `behind`
unfoldable pub log_behind : ℕ → Log → Log
log_behind r (log xs b) = log (map (λ p. r ∷ p) xs) b

-- the log of `take_up`
unfoldable pub log_take : {S : Type 0} → Offer S → ℕ → (S → Log) → Log
log_take cut r next = log [] false
log_take (overshoot f) r next = log [] false
log_take (due t) r next = log_behind r (next t)

-- the log of `arrive`, where the visit is allowed
unfoldable pub log_arrive : Bool → Log → Log
log_arrive true l = log ([] ∷ []) true
log_arrive false l = log_after ([] ∷ []) l

module _ (Y : System) (h : Y.State → Estimate) (T : ℕ) where
  -- the log of `extend`
  unfoldable pub log_extend : (List Y.State → Y.State → ℕ → Log) → List Y.State → Y.State → ℕ → ℕ → ℕ → Log
  log_extend next seen s g zero i = log [] false
  log_extend next seen s g (suc k) i =
      log_then (log_take (offer Y h T seen s g i) i (λ t. next (t ∷ seen) t (g + Y.cost i)))
      (log_extend next seen s g k (suc i))

  -- the log of `visit`
  unfoldable pub log_visit : ℕ → List Y.State → Y.State → ℕ → Log
  log_visit zero seen s g = log_arrive (Y.goal s) (log [] false)
  log_visit (suc d) seen s g = log_arrive (Y.goal s) (log_extend (log_visit d) seen s g Y.rules 0)

  -- the lists that a round at T with step limit D visits from s
  unfoldable pub round_log : ℕ → Y.State → Log
  round_log D s = log_visit D (s ∷ []) s 0

  -- p is open, it and its prefixes have figures of at most T, and no such list that reaches a goal comes before it
  abbrev pub Logged : ℕ → Y.State → List ℕ → Type 0
  Logged D s p =
      Open Y D s p × InRound Y h T s p
      × ((q : List ℕ) → Open Y D s q → InRound Y h T s q → Reaches Y s q → Before p q)
