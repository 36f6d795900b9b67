-- From what `engine` ensures to what C receives: `carried` gives the answer in numbers, and the buffer; `tells` that
-- the answer read back from the numbers is the one that `engine` gave, for which the promise is kept. `shown` are the
-- numbers of an answer, `read` reads them back. The proofs of all calls rest on these.
use mathlib.Core.Path.{◌≡◌, ap, ◌∙◌}
use mathlib.Core.List.{List}
use Prim.Native.Nat.{ℕ}
use Rattle.refusals.specs.Answers.{Answer, Outcome, outcome}

pub carried :
    {A B : Type 0} (shown : Answer A → B) {a : Answer A} {r : B} {out : List ℕ} {o : Outcome A}
    → outcome a out ≡ o → r ≡ shown a → (r ≡ shown o.answer) × (out ≡ o.out)
carried {A} shown e made =
    (made ∙ ap (λ (o : Outcome A). shown o.answer) e, ap (λ (o : Outcome A). o.out) e)

pub tells : {A B : Type 0} (read : B → Answer A) {a : Answer A} {n r : B} → r ≡ n → read n ≡ a → read r ≡ a
tells read made back = ap read made ∙ back
