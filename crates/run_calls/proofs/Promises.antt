-- What the call that replays a run promises, from the value that it gives: `replay-kept`; of an accepted call
-- `replayed-kept`. `replays` are the lemmas that the call rests on.
-- The proof of the call rests on this for the second part of its contract.
use mathlib.Core.Path.{◌≡◌, refl, sym, subst}
use mathlib.Core.Bool.{true}
use mathlib.Core.List.{List}
use Prim.Native.Nat.{ℕ}
use lib.ListN.{length, take}
use Rattle.basics.specs.Lists.{at_front}
use Rattle.basics.proofs.Lists.{front-taken}
use Rattle.refusals.specs.Answers.{Answer, refused, told, verdict, Outcome, outcome, guarded}
use Rattle.blocks.specs.Layout.{positions}
use Rattle.blocks.specs.States.{state_ok}
use Rattle.blocks.proofs.StateLaws.{state-length}
use Rattle.runs.specs.Replay.{replay_ending, replay_state}
use Rattle.runs.specs.declared.replay.Replayed.{Replayed}
use Rattle.runs.specs.declared.replay.Replayed.TheVariants.{Done, Stuck}
use Rattle.runs.proofs.ReplayLaws.{rule-numbers, done-in-turn, stuck_at, replay-length, replay-state-ok}
use Rattle.run_calls.specs.Replaying.{replay_conditions, replay_run, ReplayKept}
use Rattle.run_calls.proofs.Conditions.{ReplayAccepted, replay-accepted}

module _ (b s rs out : List ℕ) where
  abbrev Kept : Outcome Replayed → Type 0
  Kept o = ReplayKept b s rs o.answer o.out

  -- an accepted replay ends in a state, which stands at the front of the buffer
  module _ (h : ReplayAccepted b s rs (length out)) where
    front : take (positions b) (at_front (replay_state b s rs) out) ≡ replay_state b s rs
    front =
        front-taken (replay_state b s rs) out (positions b) (sym (replay-length b s rs (state-length b s h.state)))

    state-ok : state_ok b (replay_state b s rs) ≡ true
    state-ok = replay-state-ok b s rs h.valid h.state (rule-numbers b rs h.numbers)

  -- how it ends
  ended :
      ReplayAccepted b s rs (length out) → (ending : Replayed) → replay_ending b s rs ≡ ending
      → ReplayKept b s rs (told ending) (at_front (replay_state b s rs) out)
  ended h (Done end) e = rw (front h) (done-in-turn b s rs h.valid end e, state-ok h)
  ended h (Stuck end) e = rw (front h) (stuck_at b s rs end e, state-ok h)

  -- of an accepted call, by what it tells and leaves in the buffer
  pub replayed-kept :
      (ending : Replayed) (out' : List ℕ) → verdict (replay_conditions b s rs (length out)) ≡ told tt
      → ending ≡ replay_ending b s rs → out' ≡ at_front (replay_state b s rs) out
      → ReplayKept b s rs (told ending) out'
  replayed-kept ending out' h p q =
      rw (p, q) (ended (replay-accepted b s rs (length out) h) (replay_ending b s rs) refl)

  -- by the verdict
  replayed-by :
      (v : Answer (Unit {0})) → verdict (replay_conditions b s rs (length out)) ≡ v
      → Kept (guarded v out (outcome (told (replay_ending b s rs)) (at_front (replay_state b s rs) out)))
  replayed-by (refused k) h = tt
  replayed-by (told u) h = ended (replay-accepted b s rs (length out) h) (replay_ending b s rs) refl

  pub replay-kept :
      {a : Answer Replayed} {out' : List ℕ} → outcome a out' ≡ replay_run b s rs out → ReplayKept b s rs a out'
  unfolding replay_run
  replay-kept e = subst Kept (sym e) (replayed-by _ refl)

-- for the call
pub ruleset replays = (replay-accepted, rule-numbers, state-length, replayed-kept)
