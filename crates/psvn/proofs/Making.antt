-- What a side makes of a state, its length and position by position (`rewritten-length`, `rewritten-at`,
-- `given-other`); and a side makes a state that matches it of itself (`matches-itself`). The theorems on predecessors,
-- and the test of tables by sides, rest on these.
use mathlib.Core.Path.{◌≡◌, sym, ap, ◌∙◌}
use mathlib.Core.Bool.{true}
use mathlib.Core.List.{List}
use Prim.Native.Nat.{ℕ, ◌≤◌, ◌<◌}
use native.Mathlib.Omega.{arith}
use lib.ListN.{length, get_or}
use Rattle.basics.proofs.Lists.{length-tabulate, get_or-tabulate, same-list}
use Rattle.blocks.specs.Terms.{term_of}
use Rattle.blocks.proofs.TermCases.{View, label, variable, dash, refused, view, is_dash_lem, is-refused}
use Rattle.psvn.specs.Rules.{given, matches, rewritten}
use Rattle.psvn.proofs.MatchingLaws.{at_position}

module _ (n : ℕ) (left right : ℕ → ℕ) (u : List ℕ) where
  pub rewritten-at : (i : ℕ) → i < n → get_or (rewritten n left right u) i 0 ≡ given n left u i (term_of (right i))
  unfolding rewritten
  rewritten-at i l = get_or-tabulate n (λ i. given n left u i (term_of (right i))) i l

  pub rewritten-length : length (rewritten n left right u) ≡ n
  unfolding rewritten
  rewritten-length = length-tabulate n (λ i. given n left u i (term_of (right i)))

  -- neither a constant nor a variable
  pub given-other : (i : ℕ) → 32 ≤ right i → given n left u i (term_of (right i)) ≡ get_or u i 0
  given-other i a = go (view (right i))
    where
      go : View (right i) → given n left u i (term_of (right i)) ≡ get_or u i 0
      go (label b) = absurd (omega arith)
      go (variable b c) = absurd (omega arith)
      go (dash e) = ap (given n left u i) (is_dash_lem (right i) e)
      go (refused b c) = ap (given n left u i) (is-refused (right i) b c)

module _ (n : ℕ) (side : ℕ → ℕ) (s : List ℕ) where
  pub matches-itself : length s ≡ n → matches n side s ≡ true → rewritten n side side s ≡ s
  matches-itself e m =
      same-list n (rewritten n side side s) s (rewritten-length n side side s) e (λ i l.
      rewritten-at n side side s i l ∙ sym (at_position n side s m i l))
