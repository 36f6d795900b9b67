-- A round's visits are as many as its log is long, and it finds a plan just where the log has ended (`log-counts`).
-- Shown part by part (`Counts`). With what the log holds, this shows what visits are counted of; that the visits of a
-- search are those of its rounds rests on it.
use mathlib.Core.Path.{◌≡◌, refl, sym}
use mathlib.Core.Bool.{Bool, true, false, true≢false}
use mathlib.Core.List.{List, [], ◌∷◌}
use Prim.Native.Nat.{ℕ, zero, suc, ◌+◌}
use native.Mathlib.Omega.{arith}
use lib.ListN.{length, length-append, length-map}
use Rattle.rounds.specs.Systems.{System, Estimate, mark}
use Rattle.rounds.specs.Rounds.{free, Progress, on, hit, stop, Offer, cut, overshoot, due, and_then, behind, take_up}
use Rattle.rounds.specs.Rounds.{arrive, Visitor, offer, extend, visit, round}
use Rattle.rounds.specs.Logs.{Log, log, log_after, log_then, log_behind, log_take, log_arrive, log_extend, log_visit}
use Rattle.rounds.specs.Logs.{round_log}

-- x adds to u visits as many as the log is long, and has a plan where the log has ended
unfoldable pub Counts : ℕ → Progress → Log → Type 0
Counts u (on w o) (log xs b) = (w ≡ u + length xs) × (b ≡ false)
Counts u (hit w p c) (log xs b) = (w ≡ u + length xs) × (b ≡ true)
Counts u (stop w) (log xs b) = ⊥

counts-on : (u : ℕ) (o : Estimate) → Counts u (on u o) (log [] false)
unfolding Counts
counts-on u o = (omega arith, refl)

counts_behind : (u r : ℕ) (x : Progress) (l : Log) → Counts u x l → Counts u (behind r x) (log_behind r l)
unfolding Counts behind log_behind
counts_behind u r (on w o) (log xs b) c = (omega (arith, length-map xs (λ p. r ∷ p)), c.1)
counts_behind u r (hit w p c) (log xs b) k = (omega (arith, length-map xs (λ p. r ∷ p)), k.1)
counts_behind u r (stop w) (log xs b) c = c

counts-take :
    {S : Type 0} (x : Offer S) (r : ℕ) (next : S → ℕ → Estimate → Progress) (other : S → Log) (u : ℕ) (o : Estimate)
    → ((t : S) → Counts u (next t u o) (other t)) → Counts u (take_up x r next u o) (log_take x r other)
unfolding take_up log_take
counts-take cut r next other u o c = counts-on u o
counts-take (overshoot f) r next other u o c = counts-on u _
counts-take (due t) r next other u o c = counts_behind u r (next t u o) (other t) (c t)

counts-after :
    (u w : ℕ) (x : Progress) (xs : List (List ℕ)) (l : Log) → w ≡ u + length xs → Counts w x l
    → Counts u x (log_after xs l)
unfolding Counts
counts-after u w (on v o) xs (log ys b) e c = (omega (arith, length-append xs ys), c.1)
counts-after u w (hit v p k) xs (log ys b) e c = (omega (arith, length-append xs ys), c.1)
counts-after u w (stop v) xs (log ys b) e c = c

counts-then :
    (u : ℕ) (x : Progress) (l : Log) (k : ℕ → Estimate → Progress) (m : Log) → Counts u x l
    → ((w : ℕ) (o : Estimate) → Counts w (k w o) m) → Counts u (and_then x k) (log_then l m)
unfolding and_then log_then
counts-then u (on w o) (log xs true) k m c n = absurd (unfold Counts in (true≢false c.1))
counts-then u (on w o) (log xs false) k m c n = counts-after u w (k w o) xs m (unfold Counts in c.0) (n w o)
counts-then u (hit w p z) (log xs true) k m c n = c
counts-then u (hit w p z) (log xs false) k m c n = absurd (unfold Counts in (true≢false (sym c.1)))
counts-then u (stop w) (log xs b) k m c n = absurd (unfold Counts in c)

counts-arrive :
    (b : Bool) (g u : ℕ) (o : Estimate) (k : ℕ → Estimate → Progress) (m : Log)
    → ((w : ℕ) (q : Estimate) → Counts w (k w q) m) → Counts u (arrive true b g u o k) (log_arrive b m)
unfolding arrive log_arrive
counts-arrive true g u o k m n = unfold Counts in (omega arith, refl)
counts-arrive false g u o k m n = counts-after u (suc u) (k (suc u) o) ([] ∷ []) m (omega arith) (n (suc u) o)

module _ (Y : System) (h : Y.State → Estimate) (T : ℕ) where
  extend-counts :
      (next : Visitor Y.State) (other : List Y.State → Y.State → ℕ → Log)
      → ((seen : List Y.State) (s : Y.State) (g u : ℕ) (o : Estimate)
      → Counts u (next seen s g u o) (other seen s g))
      → (seen : List Y.State) (s : Y.State) (g k i u : ℕ) (o : Estimate)
      → Counts u (extend Y h T next seen s g k i u o) (log_extend Y h T other seen s g k i)
  unfolding extend log_extend
  extend-counts next other ih seen s g zero i u o = counts-on u o
  extend-counts next other ih seen s g (suc k) i u o =
      counts-then u _ _ _ _
      (counts-take (offer Y h T seen s g i) i _ _ u o (λ t. ih (t ∷ seen) t (g + Y.cost i) u o))
      (λ w q. extend-counts next other ih seen s g k (suc i) w q)

  visit-counts :
      (d : ℕ) (seen : List Y.State) (s : Y.State) (g u : ℕ) (o : Estimate)
      → Counts u (visit Y h free T d seen s g u o) (log_visit Y h T d seen s g)
  unfolding visit log_visit
  visit-counts zero seen s g u o = counts-arrive (Y.goal s) g u o on _ counts-on
  visit-counts (suc d) seen s g u o =
      counts-arrive (Y.goal s) g u o _ _
      (extend-counts (visit Y h free T d) (log_visit Y h T d) (λ ss t c x y. visit-counts d ss t c x y) seen s g
      Y.rules 0)

  -- a round with no allowance: its visits, and whether it finds a plan
  pub log-counts : (D : ℕ) (s : Y.State) (u : ℕ) → Counts u (round Y h free D s T u) (round_log Y h T D s)
  unfolding round round_log
  log-counts D s u = visit-counts D (s ∷ []) s 0 u mark
