-- `backward::choices::Reversal::variable_choice` meets its contract.
-- What is found is the first position of its kind.
use Rattle.std.proofs.Common.{◌≡◌, sym, ap, ◌∙◌, ℕ, Bool, Option, length}
use Rattle.basics.specs.Bounded.{find}
use Rattle.basics.proofs.Bounded.{find-holds, find-first}
use Rattle.blocks.specs.Sides.{left_terms, right_terms}
use Rattle.backward.specs.Reversible.{shows}
use Rattle.backward.proofs.ChoiceCases.{variable-shown}
use Rattle.backward.proofs.choices.Reversal.variable_choice.Goals as goal

-- what was found below one bound is below another that is the same
same-bound :
    (m n : ℕ) (test : ℕ → Bool) {x : Option ℕ} → m ≡ n → x ≡ find n test → find m test ≡ x
same-bound m n test e h = ap (λ (k : ℕ). find k test) e ∙ sym h

pub bounds-self-shown : goal.bounds-self-shown
bounds-self-shown c =
    let r = c.args.self.now in
    let test = shows (left_terms r.sides) (right_terms r.sides) c.args.v in
    (find-holds test (length r.state.now) c.in-Some.shown
    (same-bound (length r.state.now) r.sides.n test r.whole c.in-Some.ensures)).0

pub returns-in-Some : goal.returns-in-Some
returns-in-Some c =
    let r = c.args.self.now in
    let left = left_terms r.sides in
    let right = right_terms r.sides in
    let n = length r.state.now in
    let found = same-bound n r.sides.n (shows left right c.args.v) r.whole c.in-Some.ensures in
    sym (variable-shown n left right r.state.now c.args.begun.now c.args.i c.args.v c.in-Some.shown
    (sym (find-first (shows left right c.args.v) n c.in-Some.shown found))
    (find-holds (shows left right c.args.v) n c.in-Some.shown found).0)
