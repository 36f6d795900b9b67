-- Where only sets are written anew, the same rules agree with a label (`agreeing-kept`) and the same rules are plain
-- (`plain-kept`): both are told by the rules' left sides. So a set that is written leaves the others right
-- (`set-kept`), and the set of plain rules completes them (`sets-made`). The functions that write the sets rest on
-- these.
use mathlib.Core.Path.{◌≡◌, sym, ap, ◌∙◌}
use mathlib.Core.List.{List}
use Prim.Native.Nat.{ℕ, ◌+◌, ◌*◌, ◌≤◌, ◌<◌}
use native.Mathlib.Omega.{arith}
use lib.Dec.{eqb}
use lib.ListN.{length, get_or, set}
use lib.Seq.{get_or-set_same, get_or-set_other}
use Rattle.basics.specs.Parts.{Outside}
use Rattle.basics.specs.Sets.{member}
use Rattle.basics.proofs.Parts.{outside-none, outside_set}
use Rattle.basics.proofs.SetMaking.{passing-same}
use Rattle.words.specs.Code.{code_length, sets_place, plain_place, counts_place}
use Rattle.words.specs.Sides.{left_place}
use Rattle.words.proofs.KeptCode.{count_kept, allows-kept, side_same}
use Rattle.rule_sets.specs.Agreeing.{agrees_at, Agreeing, Indexed}
use Rattle.rule_sets.specs.Plain.{plain_rule, PlainRules, Sets}
use Rattle.rule_sets.proofs.PlainLaws.{plain_set_lem}

module _ {old new : List ℕ} (o : Outside sets_place counts_place old new) (rules : ℕ) (few : rules ≤ 64) where
  pub agreeing-kept : (i x s : ℕ) → Agreeing old rules i x s → Agreeing new rules i x s
  agreeing-kept i x s =
      passing-same (λ r. agrees_at old r i x) (λ r. agrees_at new r i x) rules s (λ r l.
      sym (allows-kept (left_place r) (side_same o (left_place r) (omega arith)) i x))

  pub plain-kept : (s : ℕ) → PlainRules old rules s → PlainRules new rules s
  plain-kept s =
      passing-same (plain_rule old) (plain_rule new) rules s (λ r l.
      sym (ap (λ (c : ℕ). eqb c 0) (count_kept (left_place r) (side_same o (left_place r) (omega arith)))))

-- one of the sets is written, at j
pub set-kept :
    (code : List ℕ) (rules i x m j v : ℕ) → rules ≤ 64 → sets_place ≤ j → j < counts_place → (m ≡ j → ⊥)
    → Agreeing code rules i x (get_or code m 0) → Agreeing (set code j v) rules i x (get_or (set code j v) m 0)
set-kept code rules i x m j v few a b d h =
    agreeing-kept (outside_set j v a b (outside-none sets_place counts_place code)) rules few i x
    (get_or (set code j v) m 0) (λ r.
    ap (λ (s : ℕ). member s r) (get_or-set_other code j m v 0 d) ∙ h r)

pub sets-made :
    {code : List ℕ} (rules n s : ℕ) → length code ≡ code_length → rules ≤ 64 → n ≤ 16 → Indexed code rules n
    → PlainRules code rules s → Sets (set code plain_place s) rules n
sets-made {code} rules n s long few low k p =
    record {
      indexed =
          record {
            told =
                λ i x l m.
                set-kept code rules i x (sets_place + (16 * i + x)) plain_place s few (omega arith) (omega arith)
                (λ e. omega arith) (k.told i x l m);
          };
      plain =
          rw (get_or-set_same code plain_place s 0 (omega arith))
          (plain_set_lem rules
          (plain-kept (outside_set plain_place s (omega arith) (omega arith)
          (outside-none sets_place counts_place code))
          rules few s p));
    }
