-- `rule_sets::place_label_sets` meets its contract.
use mathlib.Core.Path.{◌≡◌, sym, ap, ap₂, ◌∙◌}
use mathlib.Core.Logic.{⊎_elim}
use mathlib.Core.Bool.{◌&&◌}
use mathlib.Core.List.{List}
use Prim.Native.Nat.{ℕ, ◌≤◌, ◌<◌, ◌+◌, ◌*◌, ◌/◌, ◌%◌}
use native.Mathlib.Omega.{arith}
use lib.Dec.{ltb}
use lib.ListN.{length, get_or, set}
use lib.Seq.{get_or-set_same}
use Rattle.basics.specs.Sets.{member}
use Rattle.basics.proofs.Comparing.{same?}
use Rattle.basics.proofs.Parts.{outside-none, outside_set}
use Rattle.words.specs.Code.{code_length, sets_place, counts_place}
use Rattle.rule_sets.specs.Agreeing.{agrees_at, Agreeing}
use Rattle.rule_sets.proofs.KeptRules.{agreeing-kept, set-kept}
use borrow.Author.Rules.{rules}
use Rattle.rule_sets.proofs.place_label_sets.Goals as goal
use Rattle.rule_sets.proofs.place_label_sets.Invariants.{Written}

written-more :
    (code : List ℕ) (rules k v : ℕ) → length code ≡ code_length → rules ≤ 64 → k < 256 → Written code rules k
    → Agreeing code rules (k / 16) (k % 16) v → Written (set code (sets_place + k) v) rules (k + 1)
written-more code rules k v long few l h a m j =
    ⊎_elim
    (λ e r.
    ap (λ (x : ℕ). member (get_or (set code (sets_place + k) v) (sets_place + x) 0) r) e
    ∙ ap (λ (x : ℕ). member x r) (get_or-set_same code (sets_place + k) v 0 (omega arith))
    ∙ agreeing-kept
    (outside_set (sets_place + k) v (omega arith) (omega arith) (outside-none sets_place counts_place code)) rules few
    (k / 16) (k % 16) v a r
    ∙ sym (ap (λ (x : ℕ). ltb r rules && agrees_at (set code (sets_place + k) v) r (x / 16) (x % 16)) e))
    (λ d.
    set-kept code rules (m / 16) (m % 16) (sets_place + m) (sets_place + k) v few (omega arith) (omega arith)
    (λ e. d (omega arith)) (h m (omega arith)))
    (same? m k)

pub loop-k-init : goal.loop-k-init
loop-k-init c = (
  omega arith,
  c.requires.0,
  c.requires.1,
  outside-none sets_place counts_place c.args.code.now,
  λ m l. absurd (omega arith),
)

pub set_of-requires : goal.set_of-requires
set_of-requires c = (omega arith, omega arith)

pub loop-k-preserved : goal.loop-k-preserved
loop-k-preserved c =
    let l = c.loop-k in
    let more = outside_set (sets_place + l.k) c.set_of.result (omega arith) (omega arith) l.invariant.3 in (
      omega arith,
      l.invariant.1,
      l.invariant.2,
      more,
      written-more l.code c.args.rules l.k c.set_of.result (search rules) l.invariant.1 (omega arith)
          l.invariant.4 c.set_of.ensures,
    )

pub returns : goal.returns
returns c = (
  record {
    told = λ i x low small r.
        let a = c.args in
        let l = c.loop-k in
        let d : (16 * i + x) / 16 ≡ i = omega arith in
        let m : (16 * i + x) % 16 ≡ x = omega arith in
        l.invariant.4 (16 * i + x) (omega arith) r
        ∙ ap₂ (λ (y z : ℕ). ltb r a.rules && agrees_at l.code r y z) d m;
  },
  c.loop-k.invariant.3,
)
