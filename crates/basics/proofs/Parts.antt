-- Laws of `Outside`: nothing written, one element more written, one part after another, and a part within a larger one.
-- The proofs of functions that fill an array part by part rest on these.
use mathlib.Core.Path.{refl, ◌∙◌}
use mathlib.Core.List.{List}
use Prim.Native.Nat.{ℕ, ◌≤◌, ◌<◌}
use native.Mathlib.Omega.{arith}
use lib.ListN.{set, length-set}
use lib.Seq.{get_or-set_other}
use Rattle.basics.specs.Parts.{Outside}

pub outside-none : (low high : ℕ) (l : List ℕ) → Outside low high l l
outside-none low high l = record { len = refl; before = λ j h. refl; behind = λ j h. refl }

pub outside_set :
    {low high : ℕ} {old l : List ℕ} (i v : ℕ) → low ≤ i → i < high → Outside low high old l
    → Outside low high old (set l i v)
outside_set {low} {high} {old} {l} i v a b o =
    record {
      len = length-set l i v ∙ o.len;
      before = λ j h. get_or-set_other l i j v 0 (λ e. omega arith) ∙ o.before j h;
      behind = λ j h. get_or-set_other l i j v 0 (λ e. omega arith) ∙ o.behind j h;
    }

pub outside-then : {low high : ℕ} {a b c : List ℕ} → Outside low high a b → Outside low high b c → Outside low high a c
outside-then p q =
    record {
      len = q.len ∙ p.len;
      before = λ j h. q.before j h ∙ p.before j h;
      behind = λ j h. q.behind j h ∙ p.behind j h;
    }

pub outside-within :
    {low high : ℕ} {a b : List ℕ} (l h : ℕ) → l ≤ low → high ≤ h → Outside low high a b → Outside l h a b
outside-within l h p q o =
    record { len = o.len; before = λ j k. o.before j (omega arith); behind = λ j k. o.behind j (omega arith) }
