-- A candidate keeps to its choices and no state before it does, from the earlier state on; whether the rule takes it
-- to s settles the answer (`candidate-settles`). The least labels make one for 'first' (`completed-candidate`), the
-- earlier state raised at its last possible position the next (`raised-candidate`); where no position can be raised
-- there is none further (`no-candidate`). As the code finds a rule: `first-settles`, `next-settles`, `next-none`.
use Rattle.std.specs.Prelude.{Some, None}
use mathlib.Core.Path.{◌≡◌, refl, sym, ap, ap₂, ◌∙◌, subst}
use mathlib.Core.Bool.{Bool, true, false, cond}
use mathlib.Core.List.{List}
use Prim.Native.Nat.{ℕ, ◌≤◌, ◌<◌}
use native.Mathlib.Omega.{arith}
use lib.ListN.{length, get_or}
use Rattle.basics.specs.Bounded.{last}
use Rattle.basics.proofs.Truth.{true-false}
use Rattle.basics.proofs.Order.{Before}
use Rattle.blocks.specs.Layout.{positions, rules, label_count, left_of, right_of}
use Rattle.blocks.specs.States.{state_ok}
use Rattle.blocks.specs.Validity.{Valid}
use Rattle.blocks.proofs.StateLaws.{labelled-intro, state-length, state-label}
use Rattle.psvn.specs.Rules.{leads}
use Rattle.psvn.specs.Ranks.{state_rank}
use Rattle.psvn.proofs.RankLaws.{before-state-rank, state-rank-before}
use Rattle.backward.specs.Choices.{Choice, choice, choices_of, least_of, raisable_at, Completed, Raised}
use Rattle.backward.specs.Predecessors.{Earlier, from_first, after, from_rank, found, none_further, step_back}
use Rattle.backward.specs.Predecessors.{settled}
use Rattle.backward.proofs.Leading.{leads_by_lem}
use Rattle.backward.proofs.ChoiceCases.{choice-local}
use Rattle.backward.proofs.Choosing.{Keeps, Near}
use Rattle.backward.proofs.Keeping.{Proper, valid-proper, leads_keeps, keeps-leads, choice-below}
use Rattle.backward.proofs.NextState.{next-found, none_found}
use Rattle.backward.proofs.Succession.{completed-keeps, completed-below, completed-least, none_after}
use Rattle.backward.proofs.Succession.{raised-above, raised_keeps, raised_below, raised-least}

module _ (b : List ℕ) (va : Valid b) (r : ℕ) (lr : r < rules b) (s : List ℕ) (so : state_ok b s ≡ true) where
  -- the choices of a predecessor of s
  abbrev choices : List ℕ → ℕ → Choice
  choices = choice (positions b) (left_of b r) (right_of b r) s

  proper : Proper (positions b) (label_count b) (left_of b r) (right_of b r)
  proper = valid-proper b va r lr

  pub record Candidate (earlier : Earlier) (u : List ℕ) : Type 0 where
    pub state : state_ok b u ≡ true
    pub keeps : Keeps (positions b) choices u
    pub above : from_rank b earlier ≤ state_rank b u
    pub least :
        (v : List ℕ) → state_ok b v ≡ true → Keeps (positions b) choices v → from_rank b earlier ≤ state_rank b v
        → state_rank b u ≤ state_rank b v

  pub candidate-settles :
      (earlier : Earlier) (u : List ℕ) → Candidate earlier u → step_back b r s earlier ≡ settled b r s u
  candidate-settles earlier u c = go (leads b r u s) refl
    where
      keeping : (v : List ℕ) → leads b r v s ≡ true → Keeps (positions b) choices v
      keeping v h = leads_keeps (positions b) (left_of b r) (right_of b r) s v (sym (leads_by_lem b r v s) ∙ h)

      go : (t : Bool) → leads b r u s ≡ t → step_back b r s earlier ≡ cond (leads b r u s) (found u) none_further
      go true e =
          rw e
          (next-found b va.sized.headed r s earlier u
          (record {
            state = c.state;
            leads_there = e;
            above = c.above;
            least = λ v ok h a. c.least v ok (keeping v h) a;
          }))
      go false e =
          rw e
          (none_found b va.sized.headed r s earlier (λ v ok h a.
          true-false
          (leads_by_lem b r u s
          ∙ keeps-leads (positions b) (left_of b r) (right_of b r) s v (sym (leads_by_lem b r v s) ∙ h) u c.keeps
          (label_count b) proper)
          e))

  near : Near choices
  near = choice-local (positions b) (left_of b r) (right_of b r) s

  small :
      (u : List ℕ) (i : ℕ) → i < positions b → ((k : ℕ) → k < i → get_or u k 0 < label_count b k)
      → least_of (choices u i) < label_count b i
  small u =
      choice-below (positions b) (label_count b) (left_of b r) (right_of b r) proper s u (state-label b s so)

  -- a state that does not come before another one has no lower rank
  not-before :
      (u v : List ℕ) → state_ok b u ≡ true → state_ok b v ≡ true → (Before (positions b) v u → ⊥)
      → state_rank b u ≤ state_rank b v
  not-before u v uo vo h =
      let a : ¬ (state_rank b v < state_rank b u) = λ k. h (state-rank-before b v u vo uo k) in
      omega arith

  pub completed-candidate :
      (e u : List ℕ) → length u ≡ positions b → Completed choices (positions b) 0 e u → Candidate from_first u
  completed-candidate e u lu f =
      let n = positions b in
      let uo = labelled-intro n (label_count b) u lu (completed-below n (label_count b) choices near small e u f) in
      record {
        state = uo;
        keeps = completed-keeps n (label_count b) choices near small e u f;
        above = omega arith;
        least = λ v vo kv a. not-before u v uo vo (completed-least n (label_count b) choices near small e u f v kv);
      }

  module _ (e : List ℕ) (eo : state_ok b e ≡ true) where
    pub raised-candidate :
        (u : List ℕ) (i : ℕ) → length u ≡ positions b → last (positions b) (raisable_at (label_count b) choices e)
        ≡ Some i
        → Raised choices (positions b) i e u → Candidate (after e) u
    raised-candidate u i lu h t =
        let n = positions b in
        let be = state-label b e eo in
        let uo = labelled-intro n (label_count b) u lu
        (raised_below n (label_count b) choices near small e u i be h t) in
        record {
          state = uo;
          keeps = raised_keeps n (label_count b) choices near small e u i be h t;
          above = omega (
            arith,
            before-state-rank b e u eo uo (raised-above n (label_count b) choices near small e u i be h t),
          );
          least = λ v vo kv a.
              not-before u v uo vo
              (raised-least n (label_count b) choices near small e u i be h t v kv (state-label b v vo)
              (state-rank-before b e v eo vo a));
        }

    pub no-candidate :
        last (positions b) (raisable_at (label_count b) choices e) ≡ None → step_back b r s (after e) ≡ none_further
    no-candidate h =
        let n = positions b in
        none_found b va.sized.headed r s (after e) (λ v vo k a.
        none_after n (label_count b) choices near small e v
        (leads_keeps n (left_of b r) (right_of b r) s v (sym (leads_by_lem b r v s) ∙ k)) (state-label b v vo)
        (state-rank-before b e v eo vo a) h)

  -- as the code finds the rule: by the terms of its sides, and
  -- it counts positions by the length of the state
  module _ (left right : ℕ → ℕ) (el : left ≡ left_of b r) (er : right ≡ right_of b r) where
    abbrev found-choices : List ℕ → ℕ → Choice
    found-choices = choices_of left right s

    long : length s ≡ positions b
    long = state-length b s so

    same-choices : found-choices ≡ choices
    same-choices =
        ap₂ (λ (left right : ℕ → ℕ). choice (length s) left right s) el er
        ∙ ap (λ (n : ℕ). choice n (left_of b r) (right_of b r) s) long

    pub first-settles :
        (e u : List ℕ) → length u ≡ length s → Completed found-choices (length s) 0 e u
        → step_back b r s from_first ≡ settled b r s u
    first-settles e u lu f =
        candidate-settles from_first u
        (completed-candidate e u (lu ∙ long)
        (subst (λ (n : ℕ). Completed choices n 0 e u) long
        (subst (λ (w : List ℕ → ℕ → Choice). Completed w (length s) 0 e u) same-choices f)))

    module _ (e : List ℕ) (eo : state_ok b e ≡ true) where
      pub next-settles :
          (u : List ℕ) (i : ℕ) → length u ≡ length s
          → last (length s) (raisable_at (label_count b) found-choices e) ≡ Some i
          → Raised found-choices (length s) i e u → step_back b r s (after e) ≡ settled b r s u
      next-settles u i lu h t =
          candidate-settles (after e) u
          (raised-candidate e eo u i (lu ∙ long)
          (sym (ap₂ (λ (w : List ℕ → ℕ → Choice) (n : ℕ). last n (raisable_at (label_count b) w e)) same-choices long)
          ∙ h)
          (subst (λ (n : ℕ). Raised choices n i e u) long
          (subst (λ (w : List ℕ → ℕ → Choice). Raised w (length s) i e u) same-choices t)))

      pub next-none :
          last (length s) (raisable_at (label_count b) found-choices e) ≡ None
          → step_back b r s (after e) ≡ none_further
      next-none h =
          no-candidate e eo
          (sym (ap₂ (λ (w : List ℕ → ℕ → Choice) (n : ℕ). last n (raisable_at (label_count b) w e)) same-choices long)
          ∙ h)
