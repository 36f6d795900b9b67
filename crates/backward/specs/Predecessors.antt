-- Stepping back (document 01): the next state in base-L rank order that a rule takes to the given one, or 'none
-- further': `step_back`; and what the two answers mean, `NextPredecessor` and `NoPredecessor`. The public calls for
-- predecessors are stated with these.
use Rattle.std.specs.Prelude.{◌≡◌, ℕ, zero, suc, ◌≤◌, Bool, true, false, cond, ◌&&◌, List, leb, ltb}
use Rattle.basics.specs.Bounded.{first}
use Rattle.basics.specs.Lists.{at_front}
use Rattle.blocks.specs.States.{state_ok}
use Rattle.psvn.specs.Rules.{leads}
use Rattle.psvn.specs.Ranks.{state_rank, unrank_state, state_count}

-- 'first', or the earlier state
pub data Earlier : Type 0 where
  from_first : Earlier
  after : List ℕ → Earlier

-- the rank from which on a state may be the next one: the earlier state itself is passed
abbrev pub from_rank : List ℕ → Earlier → ℕ
from_rank b from_first = 0
from_rank b (after e) = suc (state_rank b e)

-- the least rank from there on whose state rule r takes to s; the number of states where there is none
unfoldable pub next_rank : List ℕ → ℕ → List ℕ → Earlier → ℕ
next_rank b r s earlier = first (state_count b) (λ k. leb (from_rank b earlier) k && leads b r (unrank_state b k) s)

-- the state found, or 'none further'
pub data NextState : Type 0 where
  found : List ℕ → NextState
  none_further : NextState

unfoldable pub step_back : List ℕ → ℕ → List ℕ → Earlier → NextState
step_back b r s earlier =
    cond (ltb (next_rank b r s earlier) (state_count b)) (found (unrank_state b (next_rank b r s earlier))) none_further

-- u is the next state from there on that rule r takes to s
pub record NextPredecessor (b : List ℕ) (r : ℕ) (s : List ℕ) (earlier : Earlier) (u : List ℕ) : Type 0 where
  pub state : state_ok b u ≡ true
  pub leads_there : leads b r u s ≡ true
  pub above : from_rank b earlier ≤ state_rank b u
  pub least :
      (v : List ℕ) → state_ok b v ≡ true → leads b r v s ≡ true → from_rank b earlier ≤ state_rank b v
      → state_rank b u ≤ state_rank b v

-- no state from there on is taken to s
abbrev pub NoPredecessor : List ℕ → ℕ → List ℕ → Earlier → Type 0
NoPredecessor b r s earlier =
    (v : List ℕ) → state_ok b v ≡ true → leads b r v s ≡ true → from_rank b earlier ≤ state_rank b v → ⊥

-- whether there is one, and the buffer afterwards: the state found stands at its front, or nothing is written
abbrev pub is_found : NextState → Bool
is_found (found u) = true
is_found none_further = false

abbrev pub written_out : NextState → List ℕ → List ℕ
written_out (found u) out = at_front u out
written_out none_further out = out

-- what stepping back answers, and leaves in the buffer
abbrev pub Answered : NextState → Bool → List ℕ → List ℕ → Type 0
Answered next answer out out' = (answer ≡ is_found next) × (out' ≡ written_out next out)

-- what a candidate u settles: it is the state found where rule r takes it to s, else there is none
abbrev pub settled : List ℕ → ℕ → List ℕ → List ℕ → NextState
settled b r s u = cond (leads b r u s) (found u) none_further

-- go on from the state found, or tell 'none further' again
abbrev pub after_call : (List ℕ → NextState) → NextState → NextState
after_call further (found u) = further u
after_call further none_further = none_further

-- the answer of call k, where the first call begins from `earlier` and each later one from the state found before it;
-- 'none further' once that was told
abbrev pub call : List ℕ → ℕ → List ℕ → Earlier → ℕ → NextState
call b r s earlier zero = step_back b r s earlier
call b r s earlier (suc k) = after_call (λ u. call b r s (after u) k) (step_back b r s earlier)
