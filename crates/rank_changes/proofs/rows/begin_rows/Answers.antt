-- `rank_changes::rows::begin_rows` meets its contract.
use Rattle.std.proofs.Common.{◌≡◌, ◌<◌, ◌-◌, ℕ, ◌+◌, ◌%◌, get_or, ap, ◌∙◌, arith, get_or-set_other, get_or-set_same}
use Rattle.std.proofs.Common.{rules, below_more}
use Rattle.words.specs.Changes.{word_span}
use Rattle.rank_changes.proofs.rows.begin_rows.Goals as goal

pub loop-k-init : goal.loop-k-init
loop-k-init c = λ j l. absurd (omega arith)

pub loop-k-preserved : goal.loop-k-preserved
loop-k-preserved c =
    let singles = c.args.singles.now in
    let l = c.loop-k in
    let v = (0 + (word_span - get_or singles l.k 0)) % word_span in
    let taken : ℕ → ℕ → ℕ = λ j x. (x + get_or singles j 0) % word_span in
    let single : get_or singles l.k 0 < word_span = search rules in
    let here : taken l.k v ≡ 0 = omega arith in
    below_more _ _
    (λ j m. ap (taken j) (get_or-set_other l.rows l.k j v 0 (λ e. omega arith)) ∙ l.invariant j m)
    (ap (taken l.k) (get_or-set_same l.rows l.k v 0 (omega arith)) ∙ here)

pub returns : goal.returns
returns c = record { taken = λ k l. c.loop-k.invariant k (omega arith) }
