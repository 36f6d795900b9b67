-- The search by rounds: a visit and its extensions (`visit`, `extend`), a round (`round`), the rounds (`rounds`) and
-- the answer (`search`), with an allowance of visits or with none. The parts are named, so that each law speaks of one
-- of them. The search call is stated with `search`.
use Rattle.std.specs.Prelude.{Bool, true, false, ◌||◌, List, [], ◌∷◌, ℕ, zero, suc, ◌+◌, leb, ltb, length}
use Rattle.std.proofs.Math.Option.{Option, none, some}
use Rattle.rounds.specs.Systems.{System, Estimate, mark, at, plus, lower}

-- how many visits are allowed: any number, or at most so many
pub data Allowance : Type 0 where
  free : Allowance
  upto : ℕ → Allowance

-- one more visit is allowed after u visits
abbrev pub allows : Allowance → ℕ → Bool
allows free u = true
allows (upto v) u = ltb u v

-- what a round, or a part of one, leaves: the visits used and the
-- least overshoot so far; the plan and its cost; or no visit left
pub data Progress : Type 0 where
  on : (used : ℕ) (overshoot : Estimate) → Progress
  hit : (used : ℕ) (plan : List ℕ) (cost : ℕ) → Progress
  stop : (used : ℕ) → Progress

-- an answer of the search: found, 'no plan' or 'spent', with its visits
pub data Answer : Type 0 where
  found : (visits : ℕ) (plan : List ℕ) (cost : ℕ) → Answer
  no_plan : (visits : ℕ) → Answer
  spent : (visits : ℕ) → Answer

-- the visits of an answer
unfoldable pub visits : Answer → ℕ
visits (found u p c) = u
visits (no_plan u) = u
visits (spent u) = u

-- the steps of an answer, 0 without a plan
abbrev pub steps : Answer → ℕ
steps (found u p c) = length p
steps (no_plan u) = 0
steps (spent u) = 0

-- the cost of an answer, 0 without a plan
abbrev pub plan_cost : Answer → ℕ
plan_cost (found u p c) = c
plan_cost (no_plan u) = 0
plan_cost (spent u) = 0

-- the plan of an answer, the empty list without one
abbrev pub plan : Answer → List ℕ
plan (found u p c) = p
plan (no_plan u) = []
plan (spent u) = []

-- what a rule offers at a list: nothing, an overshoot (a figure above the threshold), or a state to visit
pub data Offer (S : Type 0) : Type 0 where
  cut : Offer S
  overshoot : ℕ → Offer S
  due : S → Offer S

module _ {S : Type 0} where
  -- whether the figure f of t is at most the threshold
  abbrev pub judge : Bool → S → ℕ → Offer S
  judge true t f = due t
  judge false t f = overshoot f

  -- a list without a figure is cut
  abbrev pub rate : ℕ → S → Estimate → Offer S
  rate T t mark = cut
  rate T t (at f) = judge (leb f T) t f

  -- a list that comes to a state of its own path is not open
  abbrev pub weigh : Bool → ℕ → S → Estimate → Offer S
  weigh true T t e = cut
  weigh false T t e = rate T t e

-- go on, where nothing ended the search
unfoldable pub and_then : Progress → (ℕ → Estimate → Progress) → Progress
and_then (on u o) k = k u o
and_then (hit u p c) k = hit u p c
and_then (stop u) k = stop u

-- a plan of an extension is a plan of the list, the rule in front
unfoldable pub behind : ℕ → Progress → Progress
behind r (on u o) = on u o
behind r (hit u p c) = hit u (r ∷ p) c
behind r (stop u) = stop u

-- take up the offer of rule r; `next` visits a state
unfoldable pub take_up : {S : Type 0} → Offer S → ℕ → (S → ℕ → Estimate → Progress) → ℕ → Estimate → Progress
take_up cut r next u o = on u o
take_up (overshoot f) r next u o = on u (lower f o)
take_up (due t) r next u o = behind r (next t u o)

-- the answer after a round; `again` goes on at the next threshold, and without one there is no plan
unfoldable pub conclude : Progress → (ℕ → ℕ → Answer) → Answer
conclude (on u mark) again = no_plan u
conclude (on u (at T)) again = again T u
conclude (hit u p c) again = found u p c
conclude (stop u) again = spent u

-- a round at a threshold within the cost limit, and none above it
unfoldable pub capped : Bool → ℕ → (ℕ → Answer) → Answer
capped true u k = k u
capped false u k = no_plan u

-- the first threshold is the start's estimate
unfoldable pub begin : Estimate → (ℕ → Answer) → Answer
begin mark k = no_plan 0
begin (at T) k = k T

-- a visit that is due: the first test is whether it is allowed, the second whether the state meets a goal
unfoldable pub arrive : Bool → Bool → ℕ → ℕ → Estimate → (ℕ → Estimate → Progress) → Progress
arrive false b g u o k = stop u
arrive true true g u o k = hit (suc u) [] g
arrive true false g u o k = k (suc u) o

-- x is one of the states of a list
abbrev pub occurs : (Y : System) → Y.State → List Y.State → Bool
occurs Y x [] = false
occurs Y x (y ∷ ys) = Y.same x y || occurs Y x ys

-- what visits a list, for each path, last state, cost, visits used and least overshoot
abbrev pub Visitor : Type 0 → Type 0
Visitor S = List S → S → ℕ → ℕ → Estimate → Progress

module _ (Y : System) (h : Y.State → Estimate) where
  -- what is offered at threshold T where a rule leads to x, if anywhere, at cost g; seen are the states of the path
  abbrev pub offered : ℕ → List Y.State → ℕ → Option Y.State → Offer Y.State
  offered T seen g none = cut
  offered T seen g (some t) = weigh (occurs Y t seen) T t (plus g (h t))

  -- what rule r offers at a list of cost g with last state s; seen are the states of its path, s among them
  unfoldable pub offer : ℕ → List Y.State → Y.State → ℕ → ℕ → Offer Y.State
  offer T seen s g r = offered T seen (g + Y.cost r) (Y.step r s)

  -- k extensions of a list, by the rules from i on; `next` visits one
  unfoldable pub extend : ℕ → Visitor Y.State → List Y.State → Y.State → ℕ → ℕ → ℕ → ℕ → Estimate → Progress
  extend T next seen s g zero i u o = on u o
  extend T next seen s g (suc k) i u o =
      and_then (take_up (offer T seen s g i) i (λ t. next (t ∷ seen) t (g + Y.cost i)) u o)
      (λ u' o'. extend T next seen s g k (suc i) u' o')

  -- the visit of a list that is due, then the visits of its extensions by up to d rules
  unfoldable pub visit : Allowance → ℕ → ℕ → Visitor Y.State
  visit A T zero seen s g u o = arrive (allows A u) (Y.goal s) g u o on
  visit A T (suc d) seen s g u o =
      arrive (allows A u) (Y.goal s) g u o (λ u' o'. extend T (visit A T d) seen s g Y.rules 0 u' o')

  -- one round at threshold T with step limit D, after u visits
  unfoldable pub round : Allowance → ℕ → Y.State → ℕ → ℕ → Progress
  round A D s T u = visit A T D (s ∷ []) s 0 u mark

  -- at most n rounds from threshold T on, after u visits, with cost limit B
  unfoldable pub rounds : Allowance → ℕ → ℕ → Y.State → ℕ → ℕ → ℕ → Answer
  rounds A D B s zero T u = no_plan u
  rounds A D B s (suc n) T u = capped (leb T B) u (λ w. conclude (round A D s T w) (λ T' u'. rounds A D B s n T' u'))

  -- all rounds from threshold T on: thresholds rise, so that B + 1 rounds come above B
  unfoldable pub rounds_from : Allowance → ℕ → ℕ → Y.State → ℕ → ℕ → Answer
  rounds_from A D B s T u = rounds A D B s (suc B) T u

  -- the answer of the search from s with step limit D and cost limit B
  unfoldable pub search : Allowance → ℕ → ℕ → Y.State → Answer
  search A D B s = begin (h s) (λ T. rounds_from A D B s T 0)
