-- Where a session stands that prints lines one after the other: `Standing`. What is printed stands at the front of the
-- buffer; one line more is printed behind it (`one_more`), and at the end all lines are (`all-printed`). What is
-- written is known by another name (`written_as`).
-- `Printing` says of the writer too that it got what is printed, unless a write failed: the part of the buffer that is
-- handed to it is the line that was written there (`part-printed`), one line more is got behind the others
-- (`prints-more`), and at the end all lines are (`got-all`).
-- The loop over the query lines, and the whole output, rest on these.
use mathlib.Core.Path.{◌≡◌, sym, ap, subst, ◌∙◌}
use mathlib.Core.List.{List, [], ◌++◌, append_assoc, append-nil}
use Prim.Native.Nat.{ℕ, ◌+◌, ◌-◌, ◌≤◌}
use native.Mathlib.Omega.{arith}
use lib.ListN.{length, length-append, take, drop}
use lib.Seq.{drop_at, length-take-le, take-append-le}
use borrow.Rule.Slice.PartMut.{mid_of, put_mid, post_of}
use Rattle.std.proofs.Common.{Option, Result, Ok, Err, OnOk}
use Rattle.std.proofs.KnownBytes.{Appends-trans}
use Rattle.std.specs.Result.{result_and}
use Rattle.std.specs.Io.KnownBytes.{Appends}
use Rattle.basics.specs.Lists.{at_front}
use Rattle.records.specs.Records.{Written}
use Rattle.records.proofs.RecordLaws.{written_behind, written-fits, written-taken}

-- of all lines, those that are printed stand at the front of the buffer, up to the place `to`, and `left` are to follow
pub record Standing (all left old out : List ℕ) (to : ℕ) : Type 0 where
  pub printed : List ℕ
  pub parts : all ≡ printed ++ left
  pub written : Written printed old to out

module _ {all left old out : List ℕ} {to : ℕ} (s : Standing all left old out to) where
  pub printed-to : to + length left ≡ length all
  printed-to = omega (arith, s.written.told, ap length s.parts, length-append s.printed left)

module _ (all line left old out : List ℕ) (to : ℕ) (s : Standing all (line ++ left) old out to) where
  pub one_more :
      (k n : ℕ) (new : List ℕ) → k ≡ length out - to → Written line (mid_of to k out) n new
      → Standing all left old (put_mid to k out new) (to + n)
  one_more k n new e w =
      record {
        printed = s.printed ++ line;
        parts = s.parts ∙ sym (append_assoc s.printed line left);
        written = written_behind s.written e w;
      }

-- bytes that are known by another name
pub written_as :
    {bytes same old new : List ℕ} {n : ℕ} → Written bytes old n new → bytes ≡ same → Written same old n new
written_as {old = old} w e =
    record { told = w.told ∙ ap length e; front = w.front ∙ ap (λ (l : List ℕ). at_front l old) e }

-- where nothing is left, all is printed
pub all-printed :
    {all left old out : List ℕ} {to : ℕ} → Standing all left old out to → left ≡ [] → Written all old to out
all-printed s e =
    written_as s.written
    (sym (append-nil s.printed) ∙ ap (λ (l : List ℕ). s.printed ++ l) (sym e) ∙ sym s.parts)

-- what two outcomes allow together
pub both-ok :
    {T U E P Q R : Type 0} (a : Result T E) (b : Result U E) → (P → Q → R) → OnOk a P → OnOk b Q
    → OnOk (result_and a b) R
both-ok (Ok x) (Ok y) f p q = f p q
both-ok (Ok x) (Err e) f p q = tt
both-ok (Err e) b f p q = tt

-- the part of a buffer in which a line was written
pub part-printed :
    (out new : List ℕ) (to k n : ℕ) {line : List ℕ} → Written line (mid_of to k out) n new → to ≤ length out
    → take n (drop to (put_mid to k out new)) ≡ line
part-printed out new to k n w l =
    ap (take n) (drop_at (take to out) (new ++ post_of to k out) to (length-take-le to out l))
    ∙ take-append-le n new (post_of to k out) (written-fits w)
    ∙ written-taken w

-- what a writer got, where `outcome` tells that no write failed: it held `before` at first, and holds `now`
pub record Printing {E : Type 0} (all left old out : List ℕ) (to : ℕ) (outcome : Result (Unit {0}) E)
    (before now : Option (List ℕ)) : Type 0 where
  pub standing : Standing all left old out to
  pub got : OnOk outcome (Appends before now standing.printed)

module _ {E : Type 0} {all lines line left old out new : List ℕ} {to k n next : ℕ} {a b c : Option (List ℕ)} where
  -- one line more: it is written behind what is printed, and handed to the writer
  pub prints-more :
      (before now both : Result (Unit {0}) E) → Printing all lines old out to before a b → lines ≡ line ++ left
      → k ≡ length out - to → Written line (mid_of to k out) n new → next ≡ to + n
      → OnOk now (Appends b c (take n (drop to (put_mid to k out new)))) → both ≡ result_and before now
      → Printing all left old (put_mid to k out new) next both a c
  unfolding one_more
  prints-more before now both p e f w g q h =
      let s = subst (λ (u : List ℕ). Printing all u old out to before a b) e p in
      let part = part-printed out new to k n w (written-fits s.standing.written) in
      let got = subst (λ (u : List ℕ). OnOk now (Appends b c u)) part q in
      subst
      (λ (at : ℕ). Printing all left old (put_mid to k out new) at both a c)
      (sym g)
      (subst
      (λ (r : Result (Unit {0}) E). Printing all left old (put_mid to k out new) (to + n) r a c)
      (sym h)
      (record {
        standing = one_more all line left old out to s.standing k n new f w;
        got = both-ok before now (Appends-trans a b c s.standing.printed line) s.got got;
      }))

-- bytes that are known by another name
pub got-as :
    {T E : Type 0} {bytes same : List ℕ} (r : Result T E) (a b : Option (List ℕ)) → OnOk r (Appends a b bytes)
    → bytes ≡ same → OnOk r (Appends a b same)
got-as r a b got e = subst (λ (u : List ℕ). OnOk r (Appends a b u)) e got

-- where nothing is left, the writer got all lines
pub got-all :
    {E : Type 0} {all left old out : List ℕ} {to : ℕ} {a b : Option (List ℕ)} (r : Result (Unit {0}) E)
    → Printing all left old out to r a b → left ≡ [] → OnOk r (Appends a b all)
got-all {a = a} {b} r p e =
    let s = p.standing in
    got-as r a b p.got
    (sym (append-nil s.printed) ∙ ap (λ (l : List ℕ). s.printed ++ l) (sym e) ∙ sym s.parts)
