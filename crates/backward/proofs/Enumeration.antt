-- Stepping back again and again (`call`): every state that the rule takes to s is found (`call-complete`), none but
-- those (`call-sound`), in rising rank order (`call-rising`), each by one call only (`call-once`); after 'none further'
-- nothing more is found (`call_ends`), and as many calls as there are states are enough (`calls-enough`). With the rank
-- order of RankLaws this is what the document asks of predecessors.
use mathlib.Core.Path.{◌≡◌, refl, sym, ap, ◌∙◌}
use mathlib.Core.Logic.{◌⊎◌, inl, inr, ⊎_elim}
use mathlib.Core.Bool.{true}
use mathlib.Core.List.{List}
use Prim.Native.Nat.{ℕ, zero, suc, ◌+◌, ◌≤◌, ◌<◌}
use native.Mathlib.Nat.{eq-or-lt_of_le, le_of_suc-le-suc, not-suc-le-zero}
use native.Mathlib.Omega.{arith}
use Rattle.blocks.specs.States.{state_ok}
use Rattle.blocks.specs.Validity.{Headed}
use Rattle.psvn.specs.Rules.{leads}
use Rattle.psvn.specs.Ranks.{state_rank, state_count}
use Rattle.psvn.proofs.RankLaws.{state-rank-below, same-state-rank}
use Rattle.backward.specs.Predecessors.{Earlier, from_first, after, from_rank, NextState, found, none_further}
use Rattle.backward.specs.Predecessors.{NextPredecessor, step_back, after_call, call}
use Rattle.backward.proofs.NextState.{found_none, answer, found-next}

module _ (b : List ℕ) (h : Headed b) (r : ℕ) (s : List ℕ) where
  -- one call more, by the answer of the first
  call-found :
      (earlier : Earlier) (k : ℕ) (w : List ℕ) → step_back b r s earlier ≡ found w
      → call b r s earlier (suc k) ≡ call b r s (after w) k
  call-found earlier k w e = ap (after_call (λ u. call b r s (after u) k)) e

  call_none :
      (earlier : Earlier) (k : ℕ) → step_back b r s earlier ≡ none_further → call b r s earlier (suc k) ≡ none_further
  call_none earlier k e = ap (after_call (λ u. call b r s (after u) k)) e

  -- where a later call finds a state, the first one does
  first_found :
      (earlier : Earlier) (k : ℕ) (u : List ℕ) → call b r s earlier (suc k) ≡ found u
      → (w : List ℕ) × (step_back b r s earlier ≡ found w) × (call b r s (after w) k ≡ found u)
  first_found earlier k u e =
      ⊎_elim (λ n. (n.0, n.1, sym (call-found earlier k n.0 n.1) ∙ e))
      (λ n. absurd (found_none e (call_none earlier k n.0)))
      (answer b h r s earlier)

  pub call-sound :
      (earlier : Earlier) (k : ℕ) (u : List ℕ) → call b r s earlier k ≡ found u
      → (state_ok b u ≡ true) × (leads b r u s ≡ true)
  call-sound earlier zero u e = let n = found-next b h r s earlier u e in (n.state, n.leads_there)
  call-sound earlier (suc k) u e = let m = first_found earlier k u e in call-sound (after m.0) k u m.2

  -- each call raises the rank
  call-above :
      (earlier : Earlier) (k : ℕ) (u : List ℕ) → call b r s earlier k ≡ found u
      → from_rank b earlier + k ≤ state_rank b u
  call-above earlier zero u e = let a = (found-next b h r s earlier u e).above in omega arith
  call-above earlier (suc k) u e =
      let m = first_found earlier k u e in
      let a = (found-next b h r s earlier m.0 m.1).above in
      let c = call-above (after m.0) k u m.2 in
      omega arith

  pub call-rising :
      (earlier : Earlier) (j k : ℕ) (u v : List ℕ) → call b r s earlier j ≡ found u → call b r s earlier k ≡ found v
      → j < k
      → state_rank b u < state_rank b v
  call-rising earlier j zero u v e f l = absurd (not-suc-le-zero l)
  call-rising earlier zero (suc k) u v e f l =
      let c = call-above (after u) k v (sym (call-found earlier k u e) ∙ f) in
      omega arith
  call-rising earlier (suc j) (suc k) u v e f l =
      let m = first_found earlier j u e in
      call-rising (after m.0) j k u v m.2 (sym (call-found earlier k m.0 m.1) ∙ f) (le_of_suc-le-suc l)

  pub call-once :
      (earlier : Earlier) (j k : ℕ) (u : List ℕ) → call b r s earlier j ≡ found u → call b r s earlier k ≡ found u
      → j ≡ k
  call-once earlier j k u e f =
      let a : ¬ (j < k) = λ l. (let x = call-rising earlier j k u u e f l in omega arith) in
      let c : ¬ (k < j) = λ l. (let x = call-rising earlier k j u u f e l in omega arith) in
      omega arith

  module _ (u : List ℕ) (ok : state_ok b u ≡ true) (there : leads b r u s ≡ true) where
    -- some call finds u: the first one does, or it finds a state of lower rank, from which on the further ones find u
    reached-by :
        (earlier : Earlier) → from_rank b earlier ≤ state_rank b u
        → ((w : List ℕ) → from_rank b earlier ≤ state_rank b w → state_rank b w < state_rank b u
        → (k : ℕ) × (call b r s (after w) k ≡ found u))
        → (k : ℕ) × (call b r s earlier k ≡ found u)
    reached-by earlier a further =
        ⊎_elim (λ n. go n.0 n.1 n.2 (eq-or-lt_of_le (n.2.least u ok there a)))
        (λ n. absurd (n.1 u ok there a))
        (answer b h r s earlier)
      where
        go :
            (w : List ℕ) → step_back b r s earlier ≡ found w → NextPredecessor b r s earlier w
            → (state_rank b w ≡ state_rank b u) ⊎ (state_rank b w < state_rank b u)
            → (k : ℕ) × (call b r s earlier k ≡ found u)
        go w e n (inl q) = (0, e ∙ ap found (same-state-rank b w u n.state ok q))
        go w e n (inr l) =
            let m = further w n.above l in
            (suc m.0, call-found earlier m.0 w e ∙ m.1)

    -- the same, where the rank of u is at most d above the lowest that counts
    reached :
        (d : ℕ) (earlier : Earlier) → from_rank b earlier ≤ state_rank b u → state_rank b u ≤ from_rank b earlier + d
        → (k : ℕ) × (call b r s earlier k ≡ found u)
    reached zero earlier a l = reached-by earlier a (λ w c m. absurd (omega arith))
    reached (suc d) earlier a l = reached-by earlier a (λ w c m. reached d (after w) m (omega arith))

    pub call-complete : (k : ℕ) × (call b r s from_first k ≡ found u)
    call-complete = reached (state_rank b u) from_first (omega arith) (omega arith)

  pub call_ends :
      (earlier : Earlier) (j k : ℕ) → call b r s earlier j ≡ none_further → j ≤ k → call b r s earlier k ≡ none_further
  call_ends earlier zero zero e l = e
  call_ends earlier zero (suc k) e l = call_none earlier k e
  call_ends earlier (suc j) zero e l = absurd (not-suc-le-zero l)
  call_ends earlier (suc j) (suc k) e l =
      ⊎_elim
      (λ n.
      let q = call-found earlier k n.0 n.1 in
      q ∙ call_ends (after n.0) j k (sym (call-found earlier j n.0 n.1) ∙ e) (le_of_suc-le-suc l))
      (λ n. call_none earlier k n.0)
      (answer b h r s earlier)

  pub calls-enough : call b r s from_first (state_count b) ≡ none_further
  calls-enough = go (call b r s from_first (state_count b)) refl
    where
      go :
          (p : NextState) → call b r s from_first (state_count b) ≡ p
          → call b r s from_first (state_count b) ≡ none_further
      go none_further e = e
      go (found u) e =
          let a = call-above from_first (state_count b) u e in
          let c = state-rank-below b u (call-sound from_first (state_count b) u e).0 in
          absurd (omega arith)
